-- What follows from a refusal.
use Rattle.std.proofs.Common.{◌≡◌, Ok, Err, Result, ap, ◌∙◌}
use Rattle.fault.specs.declared.kinds.Placed.{Placed}
use Rattle.fault.specs.Refusals.{Table, Refusal, placed, IsRefusal, Refuses, inside, HandedOn}

-- a call that refuses answers that fault at that place
pub refuses_is : {F X : Type 0} (t : Table F) (e : Refusal F) (r : Result X (Placed F)) → Refuses t e r → r ≡ Err (placed e)
refuses_is t e (Ok x) h = absurd h
refuses_is t e (Err p) h = ap Err h.is

-- a refusal that is handed on is that refusal inside the higher layer's case
pub handed_on : {E F : Type 0} (s : Table E) (t : Table F) (c : E → F) (e : Refusal E) (p : Placed E) (q : Placed F) → HandedOn s t c p q → IsRefusal s e p → IsRefusal t (inside c e) q
handed_on {E = E} s t c e p q h i = record {
  is =
      let f : q.fault ≡ c e.fault = h.0 ∙ ap (λ (x : Placed E). c x.fault) i.is in
      let l : q.place ≡ e.place = h.1 ∙ ap (λ (x : Placed E). x.place) i.is in
      λ k. record { fault = f k; place = l k };
  number = h.2 ∙ i.number;
  layer = h.3 ∙ i.layer;
}
