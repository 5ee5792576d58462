use Rattle.std.proofs.Common.{◌≡◌, Bool, true, false, pos, ◌&&◌, rules, arith}
use Rattle.sheet.specs.Table.{in_row}
use Rattle.sheet.specs.Entries.{item_of}
use Rattle.sheet.specs.Tests.{code_test, drawing_test}
use Rattle.sheet.proofs.Tests.{held_test, judged}
use Rattle.sheet.proofs.forms.is_good.Goals as goal
use Rattle.sheet.proofs.forms.is_good.Goals.{then-code_ok, else-code_ok, then-is_none_or, else-is_none_or, then-admits, else-admits, then-is_none_or-2, else-is_none_or-2}

-- the first five tests, one after the other, of which one failed
fails : (a b c d e f t1 t2 t3 t4 : Bool) → t1 ≡ (a && b) → t2 ≡ (t1 && c) → t3 ≡ (t2 && d) → t4 ≡ (t3 && e) → t4 ≡ false → t4 ≡ (a && (b && (c && (d && (e && f)))))
fails a b c d e f t1 t2 t3 t4 h1 h2 h3 h4 f4 = grind arith

passes : (a b c d e f t1 t2 t3 t4 r : Bool) → t1 ≡ (a && b) → t2 ≡ (t1 && c) → t3 ≡ (t2 && d) → t4 ≡ (t3 && e) → t4 ≡ true → r ≡ f → r ≡ (a && (b && (c && (d && (e && f)))))
passes a b c d e f t1 t2 t3 t4 r h1 h2 h3 h4 t h5 = grind arith

pub returns-then-is_none_or-3 : goal.returns-then-is_none_or-3
returns-then-is_none_or-3 c =
    let e = item_of c.args.e in
    let code : c.code_ok.result ≡ code_test 0 e.code = search rules in
    let parent : c.if-code_ok.value ≡ (code_test 0 e.code && held_test (code_test 1) e.parent) = elim c.if-code_ok.branch [ then-code_ok w ↦ search rules | else-code_ok w ↦ search rules ] in
    let count : c.if-is_none_or.value ≡ (c.if-code_ok.value && in_row 2 (pos e.count)) = elim c.if-is_none_or.branch [ then-is_none_or w ↦ search rules | else-is_none_or w ↦ search rules ] in
    let landing : c.if-admits.value ≡ (c.if-is_none_or.value && held_test (in_row 3) e.landing) = elim c.if-admits.branch [ then-admits w ↦ search rules | else-admits w ↦ search rules ] in
    let months : c.if-is_none_or-2.value ≡ (c.if-admits.value && held_test (λ n. in_row 4 (pos n)) e.months) = elim c.if-is_none_or-2.branch [ then-is_none_or-2 w ↦ search rules | else-is_none_or-2 w ↦ search rules ] in
    let drawing : c.is_none_or-then-is_none_or-3.result ≡ held_test drawing_test e.drawing = search rules in
    judged _ e (passes _ _ _ _ _ _ _ _ _ _ _ parent count landing months c.if-is_none_or-3.true drawing)

pub returns-else-is_none_or-3 : goal.returns-else-is_none_or-3
returns-else-is_none_or-3 c =
    let e = item_of c.args.e in
    let code : c.code_ok.result ≡ code_test 0 e.code = search rules in
    let parent : c.if-code_ok.value ≡ (code_test 0 e.code && held_test (code_test 1) e.parent) = elim c.if-code_ok.branch [ then-code_ok w ↦ search rules | else-code_ok w ↦ search rules ] in
    let count : c.if-is_none_or.value ≡ (c.if-code_ok.value && in_row 2 (pos e.count)) = elim c.if-is_none_or.branch [ then-is_none_or w ↦ search rules | else-is_none_or w ↦ search rules ] in
    let landing : c.if-admits.value ≡ (c.if-is_none_or.value && held_test (in_row 3) e.landing) = elim c.if-admits.branch [ then-admits w ↦ search rules | else-admits w ↦ search rules ] in
    let months : c.if-is_none_or-2.value ≡ (c.if-admits.value && held_test (λ n. in_row 4 (pos n)) e.months) = elim c.if-is_none_or-2.branch [ then-is_none_or-2 w ↦ search rules | else-is_none_or-2 w ↦ search rules ] in
    judged _ e (fails _ _ _ _ _ (held_test drawing_test e.drawing) _ _ _ _ parent count landing months c.if-is_none_or-3.false)
