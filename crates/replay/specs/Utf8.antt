-- An input that is UTF-8 as a whole is judged by the rules alone, and no other input is played.
use Rattle.std.specs.Prelude.{◌≡◌, ℕ, ◌+◌, true, false, List, [], ◌∷◌, IsErr, Ok, Result}
use Rattle.std.specs.Str.{is_utf8}
use Rattle.std.specs.Str.Lines.{lines}
use Rattle.replay.specs.declared.report.Outcome.{Outcome}
use Rattle.replay.specs.Lines.{◌>>=◌}
use Rattle.replay.specs.Outcomes.{numbered, written_by}
use Rattle.replay.specs.Scripts.{Written, unwritten, after_line}

-- What the lines write, the first of which is line n; or the first that breaks a rule.
abbrev pub ruled_from : (n : ℕ) → Written → List (List ℕ) → Result Written Outcome
ruled_from n w [] = Ok w
ruled_from n w (l ∷ ls) = numbered n (after_line w l) >>= (λ v. ruled_from (n + 1) v ls)

abbrev pub Utf8Law : Type 0
Utf8Law = (input : List ℕ)
    → (is_utf8 input ≡ true → written_by input ≡ ruled_from 1 unwritten (lines input))
    × (is_utf8 input ≡ false → IsErr (written_by input))
