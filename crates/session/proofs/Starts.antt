-- A session whose body has just started.
use Rattle.std.proofs.Common.{◌≡◌, ℕ, ◌*◌, List, [], length, drop, sym, refl, ap, ◌∙◌}
use Rattle.block.specs.Bytes.{◌⊕◌}
use Rattle.poet.specs.Functions.{Functions}
use Rattle.poet.specs.Rows.{State, rows, whole, start}
use Rattle.session.specs.Directions.{Direction, sealing, opening, turns}
use Rattle.session.specs.Runs.{Run}
use Rattle.session.specs.Steps.{lanes}
use Rattle.session.specs.Sessions.{rows_of}

-- no rows yet
no_rows : (f : Functions) (w : Direction) (R : Run) → R.body ≡ [] → rows_of w f R ≡ turns w (start f R.header)
unfolding rows
no_rows f w R e = rw e

silent : (w : Direction) (s : State) → s.out ≡ [] → (turns w s).out ≡ []
silent sealing s e = e
silent opening s e = refl

pub started : (f : Functions) (w : Direction) (R : Run) → R.body ≡ [] → R.out ≡ []
    → {tau y one x' y' : List ℕ} → tau ≡ f.dig R.header → y ≡ tau ⊕ one → one ≡ f.num 1 → x' ≡ (turns w (lanes tau y)).x → y' ≡ (turns w (lanes tau y)).y
    → (x' ≡ (rows_of w f R).x) × (y' ≡ (rows_of w f R).y) × (R.out ≡ (rows_of w f R).out) × ([] ≡ drop (16 * whole R.body) R.body) × (0 ≡ length R.body)
unfolding start
started f w R nb ob {tau} {y} {one} {x'} {y'} te ye oe xe ge =
    let q = no_rows f w R nb in
    let l : lanes tau y ≡ start f R.header = cc in (
      xe ∙ ap (λ (s : State). (turns w s).x) l ∙ sym (ap (λ (s : State). s.x) q),
      ge ∙ ap (λ (s : State). (turns w s).y) l ∙ sym (ap (λ (s : State). s.y) q),
      ob ∙ sym (ap (λ (s : State). s.out) q ∙ silent w (start f R.header) refl),
      rw nb refl,
      rw nb refl,
    )
