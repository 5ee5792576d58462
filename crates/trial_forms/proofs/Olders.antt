-- The older digest goes on block by block, and its suites are lawful.
use Rattle.std.specs.Prelude.{◌≡◌, ℕ, suc, ◌-◌, ◌/◌, ◌%◌, ◌<◌, ◌≤◌, true, ltb, List, ◌∷◌, ◌++◌, length, take, replicate, ◌==◌, nat_lt}
use Rattle.std.proofs.Math.Path.{ap}
use Rattle.std.proofs.Common.{inl, inr, ◌∙◌, arith, length-append, length-take, take_all}
use Rattle.std.proofs.lemmas.Bool.{lt-ltb, ltb-true, eqb-true, and_parts, cases_Bool, cond-false}
use Rattle.block.specs.Bytes.{Bytes, Block, ◌⊕◌}
use Rattle.poet.specs.Functions.{Lawful}
use Rattle.poet.proofs.Rows.{block_block}
use Rattle.block.proofs.Xors.{block_xor}
use Rattle.forms.specs.Double.{double}
use Rattle.forms.specs.Filling.{filled}
use Rattle.forms.specs.Keyed.{Cipher, key_of}
use Rattle.forms.specs.Laws.{Inverts, Hashes}
use Rattle.forms.specs.Masked.{mask, summed}
use Rattle.forms.specs.Submitted.{zeros}
use Rattle.forms.proofs.Chains.{block_next}
use Rattle.forms.proofs.Doubles.{double_block}
use Rattle.forms.proofs.Endian.{coded_block, either_block}
use Rattle.forms.proofs.Fillings.{stays, filled_front, filled_whole, filled_end, filled_bytes}
use Rattle.forms.proofs.Forming.{key_block, zeros_block}
use Rattle.forms.proofs.Sums.{sum_next, mask_next, mask_block, sum_block}
use Rattle.trial_forms.specs.Older.{last_mask, older, older_suite}

last_front : (p q M : List ℕ) → length p ≡ 16 → 1 ≤ length q → last_mask (p ++ q) M ≡ last_mask q M
unfolding last_mask
last_front p q M l s =
    let n = length-append p q in
    let m : length (p ++ q) % 16 ≡ length q % 16 = omega arith in
    let a : ltb 0 (length (p ++ q)) ≡ true = lt-ltb 0 (length (p ++ q)) (omega arith) in
    let b : ltb 0 (length q) ≡ true = lt-ltb 0 (length q) (omega arith) in
    rw (m, a, b)

-- a block that more bytes follow
pub older_next : (e : List ℕ → List ℕ) (S L p q : List ℕ) → length p ≡ 16 → 1 ≤ length q → older e S L (p ++ q) ≡ older e (S ⊕ e (p ⊕ L)) (double L) q
unfolding older
older_next e S L p q l s =
    let F : List ℕ = filled q in
    let w = filled_whole q in
    let n = length-append p F in
    let k : length (p ++ F) / 16 - 1 ≡ suc (length F / 16 - 1) = omega arith in
    rw (filled_front p q l s, k, last_front p q (mask L (suc (length F / 16 - 1))) l s, sum_next e S L p F l (length F / 16 - 1), block_next p F (length F / 16 - 1) l, mask_next L (length F / 16 - 1))

pub last_whole : (h M : List ℕ) → length h ≡ 16 → last_mask h M ≡ M ⊕ double M
unfolding last_mask
last_whole h M l = rw l

pub last_filled : (h M : List ℕ) → length h < 16 → last_mask h M ≡ M ⊕ double (double M)
unfolding last_mask
last_filled h M l =
    elim (cases_Bool (stays h)) [
      | inl e ↦ (
          let f = and_parts (nat_lt 0 (length h)) (length h % 16 == 0) e in
          let a = ltb-true 0 (length h) f.0 in
          let b = eqb-true (length h % 16) 0 f.1 in
          absurd (omega arith)
          )
      | inr e ↦ cond-false (stays h) (M ⊕ double M) (M ⊕ double (double M)) e
    ]

-- the end
pub older_end : (e : List ℕ → List ℕ) (S L h : List ℕ) → length h ≤ 16 → older e S L h ≡ e (S ⊕ (take 16 (h ++ 0x80 ∷ replicate 15 0) ⊕ last_mask h L))
unfolding older summed mask
older_end e S L h l =
    let t : List ℕ = take 16 (h ++ 0x80 ∷ replicate 15 0) in
    let k : length t ≡ 16 = length-take 16 (h ++ 0x80 ∷ replicate 15 0) ∙ omega (arith, length-append h (0x80 ∷ replicate 15 0)) in
    rw (filled_end h l, k) (ap (λ b. e (S ⊕ (b ⊕ last_mask h L))) (take_all 16 t (omega arith)))

last_block : (h M : List ℕ) → Block M → Block (last_mask h M)
unfolding last_mask
last_block h M b = either_block (stays h) _ _ (block_xor _ _ b (double_block M b)) (block_xor _ _ b (double_block _ (double_block M b)))

older_block : (e : List ℕ → List ℕ) → ((b : List ℕ) → Block b → Block (e b)) → (S L : List ℕ) → Block S → Block L → (H : List ℕ) → Bytes H → Block (older e S L H)
unfolding older
older_block e eb S L sb lb H hb =
    let w = filled_whole H in
    let n = length (filled H) / 16 - 1 in
    eb _ (block_xor _ _ (sum_block e eb S L sb lb (filled H) (filled_bytes H hb) n (omega arith))
    (block_xor _ _ (block_block n (filled H) (omega arith) (filled_bytes H hb)) (last_block H (mask L n) (mask_block L lb n))))

pub older_lawful : (cipher inverse : Cipher) → Inverts cipher inverse → (hash : Cipher) → Hashes hash
    → (SK : List ℕ) → Block SK → Lawful (older_suite cipher inverse hash SK)
older_lawful cipher inverse undone hash hb SK b =
    let made = key_block cipher inverse undone SK b in
    let k = undone (key_of cipher SK 0) (made 0) in
    record {
      permutes = k;
      chain_block = λ x p. hb (key_of cipher SK 2) x (made 2) p;
      num_block = λ n _. coded_block n;
      dig_block = λ h p. older_block (cipher (key_of cipher SK 0)) k.enc_block zeros (key_of cipher SK 1) zeros_block (made 1) h p;
    }
