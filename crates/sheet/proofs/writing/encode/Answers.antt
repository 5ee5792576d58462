use Rattle.std.proofs.Common.{◌≡◌, ◌∷◌, [], ◌++◌, ℕ, List, take, ap, ◌∙◌, rules}
use Rattle.sheet.specs.Entries.{two, one, text, held, item_map, item_of}
use Rattle.sheet.proofs.Values.{Filled, lent, filled_more, filled_some, filled_none, entry_whole}
use Rattle.sheet.proofs.writing.encode.Goals as goal
use Rattle.sheet.proofs.writing.encode.Goals.{in-Some, in_default, in-Some-landing, in_default-landing, in-Some-months, in_default-months}

-- the first bytes, in a new buffer
start : {new y s : List ℕ} → new ≡ [] → y ≡ take 56 (new ++ s) → Filled 56 y ([] ++ s)
start {new} {y} {s} n e = record { is = e ∙ ap (λ (x : List ℕ). take 56 (x ++ s)) n }

pub returns : goal.returns
returns c =
    let e = item_of c.args.e in
    let m : List ℕ = [] ++ two (item_map e) in
    let map : Filled 56 c.extend.new.self m = start c.new-out.ensures (c.extend.ensures ∙ ap (λ (x : List ℕ). take 56 (c.new-out.result ++ x)) (c.to_be_bytes.ensures ∙ ap two c.map_of.ensures)) in
    let code : Filled 56 c.extend-2.new.self (m ++ e.code) = filled_more _ _ map c.extend-2.ensures in
    let parent : Filled 56 c.match-e.out ((m ++ e.code) ++ held text e.parent) = elim c.match-e.branch [
      | in-Some w ↦ filled_some text e.parent w.in-Some.parent.now _ code (ap lent w.in-Some.is) (w.out-is ∙ w.extend-in-Some.ensures)
      | in_default w ↦ filled_none text e.parent _ code (ap lent w.in_default.is) w.out-is
    ] in
    let count : Filled 56 c.extend-3.new.self (((m ++ e.code) ++ held text e.parent) ++ two e.count) = filled_more _ _ parent (c.extend-3.ensures ∙ ap (λ (x : List ℕ). take 56 (c.match-e.out ++ x)) c.to_be_bytes-2.ensures) in
    let landing : Filled 56 c.match-e-2.out ((((m ++ e.code) ++ held text e.parent) ++ two e.count) ++ held one e.landing) = elim c.match-e-2.branch [
      | in-Some-landing w ↦ filled_some one e.landing _ _ count w.in-Some-landing.is (w.out-is ∙ w.push.ensures ∙ ap (λ (x : ℕ). take 56 (c.extend-3.new.self ++ (x ∷ []))) (search rules))
      | in_default-landing w ↦ filled_none one e.landing _ count w.in_default-landing.is w.out-is
    ] in
    let months : Filled 56 c.match-e-3.out (((((m ++ e.code) ++ held text e.parent) ++ two e.count) ++ held one e.landing) ++ held two e.months) = elim c.match-e-3.branch [
      | in-Some-months w ↦ filled_some two e.months _ _ landing w.in-Some-months.is (w.out-is ∙ w.extend-in-Some-months.ensures ∙ ap (λ (x : List ℕ). take 56 (c.match-e-2.out ++ x)) w.to_be_bytes-in-Some-months.ensures)
      | in_default-months w ↦ filled_none two e.months _ landing w.in_default-months.is w.out-is
    ] in
    entry_whole e _ c.requires (record { is = c.put_drawing.ensures (((((m ++ e.code) ++ held text e.parent) ++ two e.count) ++ held one e.landing) ++ held two e.months) months.is })
