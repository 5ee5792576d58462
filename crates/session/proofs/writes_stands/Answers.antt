use Rattle.std.proofs.Common.{◌≡◌, ℕ, zero, suc, ◌*◌, ◌<◌, ◌≤◌, ◌⊎◌, inl, inr, arith}
use Rattle.session.specs.Sessions.{HoldsLaw, WritesLaw, writes}
use Rattle.session.proofs.writes_stands.Goals as goal

written : (t k : ℕ) → 16 * k ≤ writes t → (k ≡ 0) ⊎ (16 * k < t)
written t zero l = inl (omega arith)
written t (suc k) l = inr (omega arith)

writes_law : WritesLaw
writes_law t k = (
  written t k,
  (λ auto. elim auto [
    | inl e ↦ omega arith
    | inr l ↦ omega arith
  ]),
)

holds_law : HoldsLaw
holds_law t l = (omega arith, omega arith)

pub returns : goal.returns
returns c = record { writes = writes_law; holds = holds_law }
