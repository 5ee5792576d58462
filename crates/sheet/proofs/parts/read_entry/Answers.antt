use Rattle.std.proofs.Common.{◌≡◌, ◌+◌, ◌-◌, ◌≤◌, ℕ, List, Bor, ℤ, length, refl, arith, rules}
use Rattle.sheet.specs.Table.{row_of}
use Rattle.sheet.specs.Calls.{Lies}
use Rattle.sheet.specs.Inner.{Ends}
use Rattle.sheet.proofs.Steps.{ends_next, lies_on, lies_in, lies_first, held_map, held_ends}
use Rattle.sheet.proofs.parts.read_entry.Goals as goal

pub returns-clause-lies : goal.returns-clause-lies
unfolding row_of
returns-clause-lies c =
    let all = c.args.bytes in
    let r0 = c.in_ok-map.rest in
    let r1 = c.in_ok-code.rest in
    let r5 = c.in_ok-months.rest in
    let r6 = c.in_ok-drawing.rest in
    let parent = held_ends {T = Bor (List ℕ)} (λ (s : Bor (List ℕ)). s.ref_ptr ≡ r1.ref_ptr) c.in_ok-parent.ensures (λ a k. search rules) in
    let landing = held_ends {T = ℤ} (λ _. Unit {0}) c.in_ok-landing.ensures (λ a k. search rules) in
    let months = held_ends {T = ℕ} (λ _. Unit {0}) c.in_ok-months.ensures (λ a k. search rules) in
    let drawing = held_ends {T = Bor (List ℕ)} (λ (s : Bor (List ℕ)). Lies r5.ref_ptr (length r5.now - length r6.now - length s.now) s × (length r6.now + length s.now ≤ length r5.now)) c.in_ok-drawing.ensures (λ a k. search rules) in
    let e0 : Ends all r0 = c.in_ok-map.ensures.lies in
    let e1 : Ends all r1 = ends_next _ _ _ e0 c.in_ok-code.ensures.lies.1 in
    let e5 : Ends all r5 = ends_next _ _ _ e1 (ends_next _ _ _ parent.1 (ends_next _ _ _ c.in_ok-count.ensures.lies (ends_next _ _ _ landing.1 months.1))) in
    let drawn : (m : ℕ × ℕ) (n : ℕ) → Lies m n all → (s : Bor (List ℕ)) → Lies r5.ref_ptr (length r5.now - length r6.now - length s.now) s × (length r6.now + length s.now ≤ length r5.now) → Lies m (n + (length all.now - length r6.now) - length s.now) s =
    λ m n h s f. lies_in m _ _ _ r5 s (lies_on m n _ all r5 h e5 refl) f.0 (omega (arith, e5.long, f.1, drawing.1.long))
    in
    let l0 = c.in_ok-map.ensures.long in
    let l1 = c.in_ok-code.ensures.long in (
      ends_next _ _ _ e5 drawing.1,
      omega (arith, l0, c.in_ok-code.ensures.lies.1.long, parent.1.long, c.in_ok-count.ensures.lies.long, landing.1.long, months.1.long, drawing.1.long),
      λ m n h. record {
        code = lies_first m (n + 2) (n + 2) r0 c.in_ok-code.code (lies_on m n _ all r0 h e0 (omega arith)) c.in_ok-code.ensures.lies.0 refl;
        parent = held_map (λ s f. lies_first m (n + 10) (n + 10) r1 s (lies_on m n _ all r1 h e1 (omega arith)) f refl) _ parent.0;
        drawing = held_map (drawn m n h) _ drawing.0;
      },
    )
