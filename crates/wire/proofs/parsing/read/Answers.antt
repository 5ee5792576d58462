use Rattle.std.proofs.Common.{length, sym, ap, ◌∙◌}
use Rattle.wire.proofs.Whole.{after_header, suite_cut, key_cut, header_cut, ciphertext_cut}
use Rattle.wire.proofs.parsing.read.Goals as goal

pub returns-in_err-header : goal.returns-in_err-header
returns-in_err-header c =
    rw c.from_residual-in_err-header.ensures
    (λ p l e.
    let a = suite_cut p c.in_ok-suite.ensures.cases.0 e in
    let b = key_cut p l c.in_ok-key.ensures a in
    c.in_err-header.ensures p.header (after_header p) l.header_most b.1)

pub returns-in_err-ciphertext : goal.returns-in_err-ciphertext
returns-in_err-ciphertext c =
    rw c.from_residual-in_err-ciphertext.ensures
    (λ p l e.
    let a = suite_cut p c.in_ok-suite.ensures.cases.0 e in
    let b = key_cut p l c.in_ok-key.ensures a in
    let d = header_cut p l c.in_ok-header.ensures b.1 in
    c.in_err-ciphertext.ensures p.ciphertext p.tag l.ciphertext_most d.1)

pub returns-then-tag-ne-TAG_LEN : goal.returns-then-tag-ne-TAG_LEN
returns-then-tag-ne-TAG_LEN c p l e =
    let a = suite_cut p c.in_ok-suite.ensures.cases.0 e in
    let b = key_cut p l c.in_ok-key.ensures a in
    let d = header_cut p l c.in_ok-header.ensures b.1 in
    let f = ciphertext_cut p l c.in_ok-ciphertext.ensures d.1 in
    c.if-tag-ne-TAG_LEN.true (ap length (sym f.1) ∙ l.tag_long)
