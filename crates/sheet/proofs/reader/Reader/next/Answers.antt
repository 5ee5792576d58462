use Rattle.std.proofs.Common.{◌≡◌, ◌-◌, ◌<◌, ℕ, length, drop, sym, refl, ap, ◌∙◌, subst, arith, length-drop}
use Rattle.sheet.specs.Reading.{got, read_item}
use Rattle.sheet.specs.Entries.{item_of}
use Rattle.sheet.specs.Calls.{InPlace}
use Rattle.sheet.proofs.Steps.{rest_all, rest_at}
use Rattle.std.proofs.lemmas.List.Elements.{All-drop}
use Rattle.sheet.proofs.Breaking.{refusals}
use Rattle.sheet.proofs.Decoding.{goes_on, breaks, sound}
use Rattle.sheet.proofs.reader.Reader.next.Goals as goal

pub returns-in-Ok-clause-answer : goal.returns-in-Ok-clause-answer
returns-in-Ok-clause-answer c =
    let s = c.args.self.now.sheet.now in
    let p = c.args.self.now.place in
    let q = length s - length c.in-Ok.rest.now in
    let e = rest_all s p (omega arith) in
    let a = rest_at s p q _ c.in-Ok.rest e (omega arith) c.in-Ok.ensures.lies.0 refl in
    let t : read_item (drop p s) ≡ got (item_of c.in-Ok.entry) (drop q s) = sym (ap read_item e) ∙ c.in-Ok.ensures.told ∙ ap (got (item_of c.in-Ok.entry)) a.0 in
    let l = ap length e in
    let g = sound (drop p s) (item_of c.in-Ok.entry) (drop q s) (All-drop (λ b. b < 256) p s c.args.self.now.octets) t in
    (g.0, g.1, omega arith, omega (arith, l, length-drop p s, c.in-Ok.ensures.lies.1), a.1)

pub returns-in-Ok-clause-follows : goal.returns-in-Ok-clause-follows
returns-in-Ok-clause-follows c = λ es g h.
    let s = c.args.self.now.sheet.now in
    let p = c.args.self.now.place in
    let q = length s - length c.in-Ok.rest.now in
    let e = rest_all s p (omega arith) in
    let a = rest_at s p q _ c.in-Ok.rest e (omega arith) c.in-Ok.ensures.lies.0 refl in
    goes_on s p q c.in-Ok.entry es (omega arith) g h (sym (ap read_item e) ∙ c.in-Ok.ensures.told ∙ ap (got (item_of c.in-Ok.entry)) a.0)

pub returns-in-Ok-clause-lies : goal.returns-in-Ok-clause-lies
returns-in-Ok-clause-lies c =
    let s = c.args.self.now.sheet.now in
    let p = c.args.self.now.place in
    let q = length s - length c.in-Ok.rest.now in
    let m = c.args.self.now.sheet.ref_ptr in
    let a = rest_at s p q _ c.in-Ok.rest (rest_all s p (omega arith)) (omega arith) c.in-Ok.ensures.lies.0 refl in
    subst (λ (n : ℕ). InPlace m p n c.in-Ok.entry) a.2 (c.in-Ok.ensures.lies.2 m p (ap (λ (n : ℕ). (m.0, n)) (omega arith)))

pub returns-in-Err-clause-answer : goal.returns-in-Err-clause-answer
returns-in-Err-clause-answer c =
    let s = c.args.self.now.sheet.now in
    let p = c.args.self.now.place in
    let f = refusals p (drop p s) (record { fault = c.in-Err.fault; place = p }) (All-drop (λ b. b < 256) p s c.args.self.now.octets) in
    (f.0 (sym (ap read_item (rest_all s p (omega arith))) ∙ c.in-Err.ensures.told, refl), omega arith, refl)

pub returns-in-Err-clause-follows : goal.returns-in-Err-clause-follows
returns-in-Err-clause-follows c = λ es g q.
    let s = c.args.self.now.sheet.now in
    let p = c.args.self.now.place in
    breaks s p c.in-Err.fault es (omega arith) g q (sym (ap read_item (rest_all s p (omega arith))) ∙ c.in-Err.ensures.told)
