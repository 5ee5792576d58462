-- Calls on a reader, and what the replies come to.
use Rattle.std.proofs.Common.{◌≡◌, ℕ, zero, suc, ◌+◌, ◌-◌, ◌<◌, List, [], ◌∷◌, ◌++◌, length, get_or, take, drop, Some, None, Ok, Err, Bor, Option, Result, sym, refl, ap, ◌∙◌, subst, arith, ◌≤◌, add-one, append_assoc, append-nil, take_all, drop_of_length-le, length-drop, length-append}
use Rattle.std.proofs.Math.ListN.{set}
use Rattle.std.proofs.Math.Seq.{take-suc-set}
use Rattle.std.proofs.lemmas.List.{at_drop_more, get_or-map, length-map, map-set}
use Rattle.fault.specs.declared.kinds.SheetFault.{SheetFault}
use Rattle.fault.specs.declared.kinds.Placed.{Placed}
use Rattle.sheet.specs.declared.reader.Reader.{Reader}
use Rattle.sheet.specs.Entries.{Item, AllGood, Lent, bytes, sheet_of}
use Rattle.sheet.specs.Calls as calls
use Rattle.sheet.specs.Calls.{Follows, AnsweredInPlace, InPlace, last_of}
use Rattle.reading.specs.declared.script.Ask.{Ask}
use Rattle.reading.specs.declared.script.Ask.TheVariants as ask
use Rattle.reading.specs.declared.script.Reply.{Reply}
use Rattle.reading.specs.declared.script.Reply.TheVariants as reply
use Rattle.reading.specs.declared.script.Call.{Call}
use Rattle.reading.specs.Replies.{Answered, AllAnswered, Replies, asks_of, replies_of, entries_in, ends_in, nexts}
use Rattle.reading.specs.Readers.{ReaderAt, LeadsOn, Replied}

-- a next call
module _ (r r' : Reader) (same : r'.sheet ≡ r.sheet) where
  leads_by : (o : Result (Option Lent) (Placed SheetFault)) (es : List Item) → calls.Answered r.sheet.now r.place r'.place o → Follows r.sheet.now r'.place es o → r'.last ≡ last_of r.last o
      → AnsweredInPlace r.sheet.ref_ptr r.place r'.place o → ReaderAt r es → LeadsOn r r' ask.Next (reply.Next o) es
  leads_by (Ok None) [] answer follows last lies at = (
    [],
    record { good = tt; left = ap (λ (s : _). drop r'.place s.now) same ∙ follows },
    λ qs rs h. (refl, subst (λ (n : ℕ). Answered r.sheet.ref_ptr n r.last [] qs rs) answer.1 (subst (λ (l : Option Lent). Answered r.sheet.ref_ptr r'.place l [] qs rs) last h)),
  )
  leads_by (Ok None) (e ∷ es) answer follows last lies at = absurd follows
  leads_by (Ok (Some x)) [] answer follows last lies at = absurd follows
  leads_by (Ok (Some x)) (e ∷ es) answer follows last lies at =
      let b = r.sheet.ref_ptr in
      let l : length (drop r.place r.sheet.now) ≡ length (bytes e) + length (sheet_of es) = ap length at.left ∙ length-append (bytes e) (sheet_of es) in
      let k : length (drop r'.place r.sheet.now) ≡ length (sheet_of es) = ap length follows.1 in
      let placed : r'.place ≡ r.place + length (bytes e) = omega (arith, length-drop r.place r.sheet.now, length-drop r'.place r.sheet.now) in (
        es,
        record { good = at.good.1; left = ap (λ (s : _). drop r'.place s.now) same ∙ follows.1 },
        λ qs rs h.
            (x, refl, follows.0, subst (λ (n : ℕ). InPlace b r.place n x) placed lies, subst (λ (n : ℕ). Answered b n (Some x) es qs rs) placed (subst (λ (l : Option Lent). Answered b r'.place l es qs rs) last h)),
      )
  leads_by (Err f) [] answer follows last lies at = absurd follows
  leads_by (Err f) (e ∷ es) answer follows last lies at = absurd follows

  pub next_replied : (o : Result (Option Lent) (Placed SheetFault)) → calls.Answered r.sheet.now r.place r'.place o → ((es : List Item) → AllGood es → drop r.place r.sheet.now ≡ sheet_of es → Follows r.sheet.now r'.place es o) → r'.last ≡ last_of r.last o
      → AnsweredInPlace r.sheet.ref_ptr r.place r'.place o → Replied r r' ask.Next (reply.Next o)
  next_replied o answer follows last lies = record {
    same = same;
    goes = λ qs rs h. (r'.place, o, refl, answer, lies, subst (λ (l : Option Lent). Replies r.sheet.now r.sheet.ref_ptr r'.place l qs rs) last h);
    leads = λ es at. leads_by o es answer (follows es at.good at.left) last lies at;
  }

-- The replies so far, in the first i of the calls cs, on a new reader over the bytes of r: with those that are still to come, they are all.
abbrev pub Gone : (r : Reader) (cs cs' : List Call) (i : ℕ) → Type 0
Gone r cs cs' i = (rs : List (Option Reply)) → Replies r.sheet.now r.sheet.ref_ptr r.place r.last (drop i (asks_of cs)) rs → Replies r.sheet.now r.sheet.ref_ptr 0 None (asks_of cs) (take i (replies_of cs') ++ rs)

-- ... and on one over the entries es
abbrev pub Sofar : (r : Reader) (cs cs' : List Call) (i : ℕ) (es : List Item) → Type 0
Sofar r cs cs' i es = (rest : List Item) × ReaderAt r rest
    × ((rs : List (Option Reply)) → Answered r.sheet.ref_ptr r.place r.last rest (drop i (asks_of cs)) rs → Answered r.sheet.ref_ptr 0 None es (asks_of cs) (take i (replies_of cs') ++ rs))

-- the next ask, and the replies with the next one among them
module _ (cs cs' : List Call) (i : ℕ) (c : Call) (a : Reply) (l : i < length cs') (same : asks_of cs' ≡ asks_of cs) (ce : c ≡ get_or cs' i (record { ask = ask.Next; reply = None })) where
  abbrev replied_call : Call
  replied_call = record { ask = c.ask; reply = Some a }

  asks_split : drop i (asks_of cs) ≡ c.ask ∷ drop (i + 1) (asks_of cs)
  asks_split =
      let d : Call = record { ask = ask.Next; reply = None } in
      let m : i < length (asks_of cs) = omega (arith, length-map cs' (λ (x : Call). x.ask), ap length same) in
      let q : get_or (asks_of cs) i ask.Next ≡ c.ask = ap (λ (x : List Ask). get_or x i ask.Next) (sym same) ∙ get_or-map (λ (x : Call). x.ask) cs' i d ask.Next l ∙ ap (λ (x : Call). x.ask) (sym ce) in
      at_drop_more (λ (x : List Ask). x) (asks_of cs) i ask.Next m ∙ ap (λ (x : Ask). x ∷ drop (i + 1) (asks_of cs)) q

  replies_more : (rs : List (Option Reply)) → take (i + 1) (replies_of (set cs' i replied_call)) ++ rs ≡ take i (replies_of cs') ++ Some a ∷ rs
  replies_more rs =
      let n : i < length (replies_of cs') = omega (arith, length-map cs' (λ (x : Call). x.reply)) in
      let sofar : take (i + 1) (replies_of (set cs' i replied_call)) ≡ take i (replies_of cs') ++ Some a ∷ [] =
      ap (take (i + 1)) (map-set (λ (x : Call). x.reply) cs' i replied_call) ∙ rw add-one (take-suc-set (replies_of cs') i (Some a) n) in
      ap (λ (x : List (Option Reply)). x ++ rs) sofar ∙ append_assoc (take i (replies_of cs')) (Some a ∷ []) rs

  pub one_gone : (r r' : Reader) → Replied r r' c.ask a → Gone r cs cs' i → Gone r' cs (set cs' i replied_call) (i + 1)
  one_gone r r' replied gone = λ rs h.
      let s = r.sheet in
      let h' = subst (λ (x : Bor (List ℕ)). Replies x.now x.ref_ptr r'.place r'.last (drop (i + 1) (asks_of cs)) rs) replied.same h in
      let all = gone (Some a ∷ rs) (subst (λ (x : List Ask). Replies s.now s.ref_ptr r.place r.last x (Some a ∷ rs)) (sym asks_split) (replied.goes (drop (i + 1) (asks_of cs)) rs h')) in
      subst (λ (x : Bor (List ℕ)). Replies x.now x.ref_ptr 0 None (asks_of cs) (take (i + 1) (replies_of (set cs' i replied_call)) ++ rs)) (sym replied.same)
      (subst (Replies s.now s.ref_ptr 0 None (asks_of cs)) (sym (replies_more rs)) all)

  pub one_more : (r r' : Reader) (es : List Item) → Replied r r' c.ask a → Sofar r cs cs' i es → Sofar r' cs (set cs' i replied_call) (i + 1) es
  one_more r r' es replied (rest, at, more) =
      let b = r.sheet.ref_ptr in
      let (rest', at', lead) = replied.leads rest at in (
        rest',
        at',
        λ rs h.
            let h' = subst (λ (x : Bor (List ℕ)). Answered x.ref_ptr r'.place r'.last rest' (drop (i + 1) (asks_of cs)) rs) replied.same h in
            let all = more (Some a ∷ rs) (subst (λ (x : List Ask). Answered b r.place r.last rest x (Some a ∷ rs)) (sym asks_split) (lead (drop (i + 1) (asks_of cs)) rs h')) in
            subst (λ (x : Bor (List ℕ)). Answered x.ref_ptr 0 None es (asks_of cs) (take (i + 1) (replies_of (set cs' i replied_call)) ++ rs)) (sym replied.same)
            (subst (Answered b 0 None es (asks_of cs)) (sym (replies_more rs)) all),
      )

-- all of them
module _ (cs cs' : List Call) (i : ℕ) (l : length cs' ≤ i) (same : asks_of cs' ≡ asks_of cs) where
  no_asks : drop i (asks_of cs) ≡ []
  no_asks = drop_of_length-le (asks_of cs) (omega (arith, length-map cs' (λ (x : Call). x.ask), ap length same))

  all_replies : take i (replies_of cs') ++ [] ≡ replies_of cs'
  all_replies = append-nil (take i (replies_of cs')) ∙ take_all i (replies_of cs') (omega (arith, length-map cs' (λ (x : Call). x.reply)))

  pub all_gone : (r : Reader) → Gone r cs cs' i → Replies r.sheet.now r.sheet.ref_ptr 0 None (asks_of cs) (replies_of cs')
  all_gone r gone =
      let s = r.sheet in
      subst (Replies s.now s.ref_ptr 0 None (asks_of cs)) all_replies (gone [] (subst (λ (x : List Ask). Replies s.now s.ref_ptr r.place r.last x []) (sym no_asks) tt))

  pub no_more : (r : Reader) (es : List Item) → Sofar r cs cs' i es → Answered r.sheet.ref_ptr 0 None es (asks_of cs) (replies_of cs')
  no_more r es (rest, at, more) =
      let b = r.sheet.ref_ptr in
      subst (Answered b 0 None es (asks_of cs)) all_replies (more [] (subst (λ (x : List Ask). Answered b r.place r.last rest x []) (sym no_asks) tt))

-- the entries and the ends among the replies
take_none : (n : ℕ) → take {A = Item} n [] ≡ []
take_none zero = refl
take_none (suc n) = refl

pub entries_are : (qs : List Ask) (rs : List (Option Reply)) (b : ℕ × ℕ) (p : ℕ) (last : Option Lent) (es : List Item) → Answered b p last es qs rs → entries_in rs ≡ take (nexts qs) es
entries_are [] [] b p last [] h = refl
entries_are [] [] b p last (e ∷ es) h = refl
entries_are (ask.Next ∷ qs) (r ∷ rs) b p last [] h = ap (λ (x : Option Reply). entries_in (x ∷ rs)) h.0 ∙ entries_are qs rs b p last [] h.1 ∙ take_none (nexts qs)
entries_are (ask.Next ∷ qs) (r ∷ rs) b p last (e ∷ es) h =
    ap (λ (x : Option Reply). entries_in (x ∷ rs)) h.1 ∙ ap (λ (i : Item). i ∷ entries_in rs) h.2 ∙ ap (λ (is : List Item). e ∷ is) (entries_are qs rs b (p + length (bytes e)) (Some h.0) es h.4)
entries_are (ask.Field k ∷ qs) (r ∷ rs) b p last [] h = ap (λ (x : Option Reply). entries_in (x ∷ rs)) h.0 ∙ entries_are qs rs b p last [] h.1
entries_are (ask.Field k ∷ qs) (r ∷ rs) b p last (e ∷ es) h = ap (λ (x : Option Reply). entries_in (x ∷ rs)) h.0 ∙ entries_are qs rs b p last (e ∷ es) h.1
entries_are [] (r ∷ rs) b p last es h = absurd h
entries_are (q ∷ qs) [] b p last es h = absurd h

pub ends_are : (qs : List Ask) (rs : List (Option Reply)) (b : ℕ × ℕ) (p : ℕ) (last : Option Lent) (es : List Item) → Answered b p last es qs rs → ends_in rs ≡ nexts qs - length es
ends_are [] [] b p last [] h = refl
ends_are [] [] b p last (e ∷ es) h = omega arith
ends_are (ask.Next ∷ qs) (r ∷ rs) b p last [] h = ap (λ (x : Option Reply). ends_in (x ∷ rs)) h.0 ∙ omega (arith, ends_are qs rs b p last [] h.1)
ends_are (ask.Next ∷ qs) (r ∷ rs) b p last (e ∷ es) h = ap (λ (x : Option Reply). ends_in (x ∷ rs)) h.1 ∙ omega (arith, ends_are qs rs b (p + length (bytes e)) (Some h.0) es h.4)
ends_are (ask.Field k ∷ qs) (r ∷ rs) b p last [] h = ap (λ (x : Option Reply). ends_in (x ∷ rs)) h.0 ∙ ends_are qs rs b p last [] h.1
ends_are (ask.Field k ∷ qs) (r ∷ rs) b p last (e ∷ es) h = ap (λ (x : Option Reply). ends_in (x ∷ rs)) h.0 ∙ ends_are qs rs b p last (e ∷ es) h.1
ends_are [] (r ∷ rs) b p last es h = absurd h
ends_are (q ∷ qs) [] b p last es h = absurd h

pub all_answered : (b : ℕ × ℕ) (es : List Item) (cs cs' : List Call) → asks_of cs' ≡ asks_of cs → Answered b 0 None es (asks_of cs) (replies_of cs') → AllAnswered b es cs cs'
all_answered b es cs cs' a h = record { asks = a; each = h; entries = entries_are (asks_of cs) (replies_of cs') b 0 None es h; ends = ends_are (asks_of cs) (replies_of cs') b 0 None es h }
