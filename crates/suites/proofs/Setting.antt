-- Parts that are made from a key.
use Rattle.std.specs.Prelude.{◌≡◌, ℕ, List, [], ◌++◌}
use Rattle.std.proofs.Math.Path.{ap, ap₂}
use Rattle.std.proofs.Common.{◌∙◌}
use Rattle.forms.specs.Chained.{chained}
use Rattle.forms.specs.Masked.{masked}

-- a key that is made from another one: k, the block b enciphered under that
pub enciphered : (cipher : List ℕ → List ℕ → List ℕ) (e : List ℕ → List ℕ) (key x b k : List ℕ) → e ≡ cipher key → x ≡ b → k ≡ e x → k ≡ cipher key b
enciphered cipher e key x b k ee xe ke = ke ∙ ap (λ (f : List ℕ → List ℕ). f x) ee ∙ ap (cipher key) xe

-- a new chained digest
pub chained_new : (e c e' c' : List ℕ → List ℕ) (x y a h : List ℕ) (fill : List ℕ → List ℕ) → e ≡ e' → c ≡ c' → x ≡ a → y ≡ a → h ≡ []
    → ◌≡◌ {A = List ℕ → List ℕ} (λ r. chained e c x y (fill (h ++ r))) (λ r. chained e' c' a a (fill r))
chained_new e c e' c' x y a h fill ee ce xe ye he =
    let p : (r : List ℕ) → chained e c x y (fill (h ++ r)) ≡ chained e' c' a a (fill r) =
    λ r. ap (λ z. chained e c x y (fill (z ++ r))) he ∙ ap₂ (λ u v. chained u v x y (fill r)) ee ce ∙ ap₂ (λ u v. chained e' c' u v (fill r)) xe ye
    in
    λ i r. p r i

-- a masked digest that has taken what stands before a header
pub masked_new : (rule : List ℕ → List ℕ) (e e' : List ℕ → List ℕ) (S S' L L' h front : List ℕ) (fill : List ℕ → List ℕ) → e ≡ e' → S ≡ S' → L ≡ L' → h ≡ []
    → ((r : List ℕ) → rule r ≡ masked e S L (fill (h ++ (front ++ r)))) → ◌≡◌ {A = List ℕ → List ℕ} rule (λ r. masked e' S' L' (fill (front ++ r)))
masked_new rule e e' S S' L L' h front fill ee Se Le he taken =
    let p : (r : List ℕ) → rule r ≡ masked e' S' L' (fill (front ++ r)) =
    λ r. taken r ∙ ap (λ z. masked e S L (fill (z ++ (front ++ r)))) he ∙ ap (λ u. masked u S L (fill (front ++ r))) ee ∙ ap₂ (λ u v. masked e' u v (fill (front ++ r))) Se Le
    in
    λ i r. p r i
