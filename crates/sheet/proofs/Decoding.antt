-- Entries and sheets: an entry is read exactly where its bytes stand, and a sheet has one list of entries.
use Rattle.std.proofs.Common.{◌≡◌, ℕ, ◌+◌, ◌<◌, ◌≤◌, ◌⊎◌, Bool, List, [], ◌∷◌, ◌++◌, length, drop, is_some, Some, None, Ok, Option, sym, refl, ap, ◌∙◌, subst, append_assoc, append-nil, inl, inr, arith, length-append, length-drop}
use Rattle.std.proofs.lemmas.List.{drop_all, length_push}
use Rattle.std.proofs.lemmas.List.Elements.{All-drop}
use Rattle.fault.specs.declared.kinds.SheetFault.{SheetFault}
use Rattle.fault.specs.declared.kinds.SheetFault.TheVariants.{Cut}
use Rattle.fault.specs.declared.kinds.Placed.{Placed}
use Rattle.sheet.specs.Table.{is_set}
use Rattle.sheet.specs.Entries.{Item, Good, Held, two, one, text, counted, held, item_map, map_of, bytes, sheet_of, AllGood, Lent, item_of}
use Rattle.sheet.specs.Reading.{Read, got, fault, next, read_code, read_number, read_landing, read_drawing, read_held, read_map, item, read_fields, read_item}
use Rattle.sheet.specs.Calls.{Follows, Holds, Broken}
use Rattle.sheet.specs.Laws.{HasEntry, HasRefusal, EntryLaw, ReadingLaw, UniqueLaw, HoldsLaw, BrokenLaw}
use Rattle.sheet.specs.Breaks.{RefusedAt}
use Rattle.sheet.proofs.Breaking.{refusals, first}
use Rattle.sheet.proofs.FieldBytes.{Octets, octets_right, fault_got, got_same, next_inv, Lawful, code_lawful, count_lawful, months_lawful, landing_lawful, drawing_lawful, held_back, held_sound, map_back, map_flags, map_sound}

pub bytes_on : (e : Item) (rest : List ℕ) → bytes e ++ rest ≡ two (item_map e) ++ (e.code ++ (held text e.parent ++ (two e.count ++ (held one e.landing ++ (held two e.months ++ (held counted e.drawing ++ rest))))))
bytes_on e rest = simp append_assoc

at_flag : {X : Type 0} (p : List ℕ → Read X) (a b : Bool) (bs : List ℕ) (o : Read (Option X)) → a ≡ b → read_held p b bs ≡ o → read_held p a bs ≡ o
at_flag p a b bs o e h = ap (λ t. read_held p t bs) e ∙ h

step : {X Y : Type 0} (o : Read X) (a : X) (r : List ℕ) (k : X → List ℕ → Read Y) (z : Read Y) → o ≡ got a r → k a r ≡ z → next o k ≡ z
step o a r k z e h = ap (λ t. next t k) e ∙ h

pub back : (e : Item) (rest : List ℕ) → Good e → read_item (bytes e ++ rest) ≡ got e rest
back e rest g =
    let f = map_flags (is_some e.parent) (is_some e.landing) (is_some e.months) (is_some e.drawing) in
    ap read_item (bytes_on e rest)
    ∙ step _ _ _ read_fields _ (map_back (is_some e.parent) (is_some e.landing) (is_some e.months) (is_some e.drawing) _)
    (step _ _ _ _ _ ((code_lawful 0).back e.code _ g.code)
    (step _ _ _ _ _ (at_flag (read_code 1) _ _ _ _ f.parent (held_back (code_lawful 1) e.parent _ g.parent))
    (step _ _ _ _ _ (count_lawful.back e.count _ g.count)
    (step _ _ _ _ _ (at_flag read_landing _ _ _ _ f.landing (held_back landing_lawful e.landing _ g.landing))
    (step _ _ _ _ _ (at_flag (read_number 4) _ _ _ _ f.months (held_back months_lawful e.months _ g.months))
    (step _ _ _ _ _ (at_flag read_drawing _ _ _ _ f.drawing (held_back drawing_lawful e.drawing rest g.drawing)) refl))))))

-- one step back, with what it gives as variables
went : {X Y G : Type 0} {P : X → Type 0} {w : X → List ℕ} {r : List ℕ → Read X} → Lawful P w r → (k : X → List ℕ → Read Y) (bs : List ℕ) (b : Y) (rest : List ℕ) → Octets bs → next (r bs) k ≡ got b rest → ((a : X) (after : List ℕ) → P a → bs ≡ w a ++ after → Octets after → k a after ≡ got b rest → G) → G
went {X} {Y} {G} {P} {w} {r} l k bs b rest h e g =
    let i = next_inv (r bs) k b rest e in
    let s = l.sound bs i.0 i.1 h i.2 in
    g i.0 i.1 s.0 s.1 (octets_right (w i.0) i.1 (subst Octets s.1 h)) i.3

went_held : {X Y G : Type 0} {P : X → Type 0} {w : X → List ℕ} {r : List ℕ → Read X} → Lawful P w r → (on : Bool) (k : Option X → List ℕ → Read Y) (bs : List ℕ) (b : Y) (rest : List ℕ) → Octets bs → next (read_held r on bs) k ≡ got b rest → ((o : Option X) (after : List ℕ) → Held P o → bs ≡ held w o ++ after → is_some o ≡ on → Octets after → k o after ≡ got b rest → G) → G
went_held {X} {Y} {G} {P} {w} {r} l on k bs b rest h e g =
    let i = next_inv (read_held r on bs) k b rest e in
    let s = held_sound l on bs i.0 i.1 h i.2 in
    g i.0 i.1 s.0 s.1 s.2 (octets_right (held w i.0) i.1 (subst Octets s.1 h)) i.3

abbrev field_bytes : Item → List ℕ → List ℕ
field_bytes e rest = e.code ++ (held text e.parent ++ (two e.count ++ (held one e.landing ++ (held two e.months ++ (held counted e.drawing ++ rest)))))

pub record Fields (m : ℕ) (bs : List ℕ) (rest : List ℕ) (e : Item) : Type 0 where
  pub good : Good e
  pub is : bs ≡ field_bytes e rest
  pub flags : item_map e ≡ map_of (is_set m 1) (is_set m 3) (is_set m 4) (is_set m 5)

sound_fields : (m : ℕ) (bs : List ℕ) (e : Item) (rest : List ℕ) → Octets bs → read_fields m bs ≡ got e rest → Fields m bs rest e
sound_fields m bs e rest h q =
    went (code_lawful 0) _ bs e rest h q λ c r1 gc b1 h1 q1.
    went_held (code_lawful 1) (is_set m 1) _ r1 e rest h1 q1 λ p r2 gp b2 f2 h2 q2.
    went count_lawful _ r2 e rest h2 q2 λ n r3 gn b3 h3 q3.
    went_held landing_lawful (is_set m 3) _ r3 e rest h3 q3 λ l r4 gl b4 f4 h4 q4.
    went_held months_lawful (is_set m 4) _ r4 e rest h4 q4 λ o r5 go b5 f5 h5 q5.
    went_held drawing_lawful (is_set m 5) _ r5 e rest h5 q5 λ d r6 gd b6 f6 h6 q6.
    let g = got_same (item c p n l o d) e r6 rest q6 in
    subst (Fields m bs rest) g.0 (record {
      good = record { code = gc; parent = gp; count = gn; landing = gl; months = go; drawing = gd };
      is = b1 ∙ ap (λ x. c ++ x) (b2 ∙ ap (λ x. held text p ++ x) (b3 ∙ ap (λ x. two n ++ x) (b4 ∙ ap (λ x. held one l ++ x) (b5 ∙ ap (λ x. held two o ++ x) (b6 ∙ ap (λ x. held counted d ++ x) g.1)))));
      flags = (λ i. map_of (f2 i) (f4 i) (f5 i) (f6 i));
    })

pub sound : (bs : List ℕ) (e : Item) (rest : List ℕ) → Octets bs → read_item bs ≡ got e rest → Good e × (bs ≡ bytes e ++ rest)
sound bs e rest h q =
    let i = next_inv (read_map bs) read_fields e rest q in
    let s = map_sound bs i.0 i.1 h i.2 in
    let f = sound_fields i.0 i.1 e rest (octets_right (two i.0) i.1 (subst Octets s.1 h)) i.3 in
    (f.good, s.1 ∙ ap (λ m. two m ++ i.1) (sym (f.flags ∙ s.0)) ∙ ap (λ x. two (item_map e) ++ x) f.is ∙ sym (bytes_on e rest))

pub reading : ReadingLaw
reading bs e rest o = (sound bs e rest o, λ g. ap read_item g.1 ∙ back e rest g.0)

-- an entry or a refusal
entry_by : (p : ℕ) (bs : List ℕ) → Octets bs → (o : Read Item) → read_item bs ≡ o → HasEntry bs ⊎ HasRefusal p bs
entry_by p bs o (got e rest) q = let s = sound bs e rest o q in inl (e, rest, s.0, s.1)
entry_by p bs o (fault f) q = let g : Placed SheetFault = record { fault = f; place = p } in inr (g, (refusals p bs g o).0 (q, refl))

pub entry : EntryLaw
entry p bs o = (
  entry_by p bs o (read_item bs) refl,
  λ h r. fault_got r.0.fault h.0 h.1 (sym ((refusals p bs r.0 o).1 r.1).0 ∙ ap read_item h.3 ∙ back h.0 h.1 h.2),
)

-- two readings of the same bytes
same : (e f : Item) (r s : List ℕ) → Good e → Good f → bytes e ++ r ≡ bytes f ++ s → (e ≡ f) × (r ≡ s)
same e f r s ge gf q = got_same e f r s (sym (back e r ge) ∙ ap read_item q ∙ back f s gf)

none_some : (x : ℕ) (xs : List ℕ) → [] ≡ x ∷ xs → ⊥
none_some x xs e = let z : ◌≡◌ {A = ℕ} 0 1 = cc in omega arith

pub unique : UniqueLaw
unique [] [] g h q = refl
unique [] (f ∷ fs) g h q = absurd (none_some _ _ q)
unique (e ∷ es) [] g h q = absurd (none_some _ _ (sym q))
unique (e ∷ es) (f ∷ fs) g h q =
    let s = same e f (sheet_of es) (sheet_of fs) g.0 h.0 q in
    let t = unique es fs g.1 h.1 s.1 in
    λ i. s.0 i ∷ t i

-- made of good entries, perhaps none
abbrev Made : List ℕ → Type 0
Made bs = (es : List Item) × AllGood es × (sheet_of es ≡ bs)

-- what is left of a sheet after good entries is made of good entries
pub strip : (es fs : List Item) (r : List ℕ) → AllGood es → AllGood fs → sheet_of fs ≡ sheet_of es ++ r → Made r
strip [] fs r g h q = (fs, h, q)
strip (e ∷ es) [] r g h q = absurd (none_some _ _ q)
strip (e ∷ es) (f ∷ fs) r g h q =
    let s = same f e (sheet_of fs) (sheet_of es ++ r) h.0 g.0 (q ∙ append_assoc (bytes e) (sheet_of es) r) in
    strip es fs r g.1 h.1 s.1

-- bytes that cannot be read are not made of entries
pub refused : (r : List ℕ) (f : SheetFault) → 0 < length r → read_item r ≡ fault f → Made r → ⊥
refused r f l q ([], g, e) = let n = ap length e in omega arith
refused r f l q (d ∷ ds, g, e) = fault_got f d (sheet_of ds) (sym q ∙ ap read_item (sym e) ∙ back d (sheet_of ds) g.0)

-- where good entries follow: none at the end, else the first is read, and no reading is refused
pub ends : (s : List ℕ) (p : ℕ) (es : List Item) → p ≡ length s → drop p s ≡ sheet_of es → Follows s p es (Ok None)
ends s p [] h q = q
ends s p (e ∷ es) h q = none_some _ _ (sym (drop_all p s (omega arith)) ∙ q)

pub goes_on : (s : List ℕ) (p q : ℕ) (x : Lent) (es : List Item) → p < length s → AllGood es → drop p s ≡ sheet_of es → read_item (drop p s) ≡ got (item_of x) (drop q s) → Follows s q es (Ok (Some x))
goes_on s p q x [] l g e r = let n = ap length e in let m = length-drop p s in omega arith
goes_on s p q x (d ∷ ds) l g e r = got_same (item_of x) d (drop q s) (sheet_of ds) (sym r ∙ ap read_item e ∙ back d (sheet_of ds) g.0)

pub breaks : (s : List ℕ) (p : ℕ) (f : SheetFault) (es : List Item) → p < length s → AllGood es → drop p s ≡ sheet_of es → read_item (drop p s) ≡ fault f → ⊥
breaks s p f es l g q r = refused (drop p s) f (simp length-drop (omega arith)) r (es, g, sym q)

-- the entries before a place, n of them
pub record Sofar (s : List ℕ) (p n : ℕ) : Type 0 where
  pub items : List Item
  pub count : length items ≡ n
  pub good : AllGood items
  pub is : sheet_of items ++ drop p s ≡ s
  pub within : p ≤ length s
  pub few : n ≤ p

pub start : (s : List ℕ) (p n : ℕ) → p ≡ 0 → n ≡ 0 → Sofar s p n
start s p n e z = record { items = []; count = omega arith; good = tt; is = ap (λ (i : ℕ). drop i s) e; within = omega arith; few = omega arith }

pub all_good_push : (es : List Item) (e : Item) → AllGood es → Good e → AllGood (es ++ e ∷ [])
all_good_push [] e g h = (h, tt)
all_good_push (d ∷ es) e g h = (g.0, all_good_push es e g.1 h)

pub sheet_push : (es : List Item) (e : Item) (r : List ℕ) → sheet_of (es ++ e ∷ []) ++ r ≡ sheet_of es ++ (bytes e ++ r)
sheet_push [] e r = append_assoc (bytes e) [] r
sheet_push (d ∷ es) e r = append_assoc (bytes d) (sheet_of (es ++ e ∷ [])) r ∙ ap (λ x. bytes d ++ x) (sheet_push es e r) ∙ sym (append_assoc (bytes d) (sheet_of es) (bytes e ++ r))

-- one entry more, as a next call on the sheet t answers it
pub on : (s t : List ℕ) (p q n : ℕ) (e : Item) → t ≡ s → Sofar s p n → Good e × (drop p t ≡ bytes e ++ drop q t) × (p < length t) × (p < q) × (q ≤ length t) → Sofar s q (n + 1)
on s t p q n e te h a =
    let b : drop p s ≡ bytes e ++ drop q s = subst (λ (x : List ℕ). drop p x ≡ bytes e ++ drop q x) te a.1 in
    let l = ap length te in
    record {
      items = h.items ++ e ∷ [];
      count = simp length_push (omega (arith, h.count));
      good = all_good_push h.items e h.good a.0;
      is = sheet_push h.items e (drop q s) ∙ ap (λ x. sheet_of h.items ++ x) (sym b) ∙ h.is;
      within = omega (arith, a.4);
      few = omega (arith, h.few, a.3);
    }

-- the end, behind one entry or more
pub whole : (s : List ℕ) (p n : ℕ) → Sofar s p n → length s ≤ p → 0 < n → (es : List Item) × Holds s es × (n ≡ length es)
whole s p n h e k = (
  h.items,
  record {
    some = omega (arith, h.count);
    good = h.good;
    is = sym (append-nil (sheet_of h.items)) ∙ ap (λ x. sheet_of h.items ++ x) (sym (drop_all p s e)) ∙ h.is;
  },
  sym h.count,
)

-- and behind none
some_made : (fs : List Item) → 0 < length fs → sheet_of fs ≡ [] → ⊥
some_made [] n q = omega arith
some_made (f ∷ fs) n q = none_some _ _ (sym q)

empty : (s : List ℕ) (p : ℕ) (es : List Item) → sheet_of es ++ drop p s ≡ s → length es ≡ 0 → length s ≤ p → s ≡ []
empty s p [] e z l = sym e ∙ drop_all p s l
empty s p (d ∷ ds) e z l = absurd (omega arith)

none_at : Octets []
none_at k d h = absurd (omega arith)

pub nothing : (s : List ℕ) (p n : ℕ) → Sofar s p n → length s ≤ p → n ≡ 0 → ((es : List Item) → Holds s es → ⊥) × Broken s (record { fault = Cut; place = 0 })
nothing s p n h l z =
    let e : s ≡ [] = empty s p h.items h.is (omega (arith, h.count)) l in (
      λ fs g. some_made fs g.some (g.is ∙ e),
      subst (λ (x : List ℕ). Broken x (record { fault = Cut; place = 0 })) (sym e) (record { inside = inl refl; before = []; good = tt; length_before = refl; is = refl; refused = (refusals 0 [] (record { fault = Cut; place = 0 }) none_at).0 (refl, refl) }),
    )

-- a refusal, as a next call on the sheet t answers it
pub refusal : (s t : List ℕ) (p n : ℕ) (f : Placed SheetFault) → t ≡ s → Octets s → Sofar s p n → RefusedAt p (drop p t) f → p < length t → ((es : List Item) → Holds s es → ⊥) × Broken s f
refusal s t p n f te o h a lt =
    let l = ap length te in
    let b : RefusedAt p (drop p s) f = subst (λ (x : List ℕ). RefusedAt p (drop p x) f) te a in
    let is = (refusals p (drop p s) f (All-drop (λ x. x < 256) p s o)).1 b in
    let at : f.place ≡ p = is.1 in (
      λ fs g. refused (drop p s) f.fault (simp length-drop (omega arith)) is.0 (strip h.items fs (drop p s) h.good g.good (g.is ∙ sym h.is)),
      record {
        inside = inr (omega (arith, at));
        before = h.items;
        good = h.good;
        length_before = let l = ap length h.is in let a = length-append (sheet_of h.items) (drop p s) in let m = length-drop p s in omega (arith, h.within);
        is = ap (λ (i : ℕ). sheet_of h.items ++ drop i s) at ∙ h.is;
        refused = subst (λ (i : ℕ). RefusedAt i (drop i s) f) (sym at) b;
      },
    )

-- ---- broken sheets

-- what stands at the place cannot be read
unread : (s : List ℕ) (f : Placed SheetFault) → Octets s → (b : Broken s f) → read_item (drop f.place s) ≡ fault f.fault
unread s f o b = ((refusals f.place (drop f.place s) f (All-drop (λ x. x < 256) f.place s o)).1 b.refused).0

pub holds : HoldsLaw
holds s es f o h b =
    elim b.inside [
      | inl e ↦ some_made es h.some (h.is ∙ e)
      | inr l ↦ refused (drop f.place s) f.fault (simp length-drop (omega (arith, l))) (unread s f o b) (strip b.before es (drop f.place s) b.good h.good (h.is ∙ sym b.is))
    ]

-- good entries before bytes that cannot be read are of one list only
one_front : (es fs : List Item) (r t : List ℕ) (x y : SheetFault) → AllGood es → AllGood fs → read_item r ≡ fault x → read_item t ≡ fault y → sheet_of es ++ r ≡ sheet_of fs ++ t → sheet_of es ≡ sheet_of fs
one_front [] [] r t x y g h a b q = refl
one_front [] (f ∷ fs) r t x y g h a b q =
    absurd (fault_got x f (sheet_of fs ++ t) (sym a ∙ ap read_item (q ∙ append_assoc (bytes f) (sheet_of fs) t) ∙ back f (sheet_of fs ++ t) h.0))
one_front (e ∷ es) [] r t x y g h a b q =
    absurd (fault_got y e (sheet_of es ++ r) (sym b ∙ ap read_item (sym q ∙ append_assoc (bytes e) (sheet_of es) r) ∙ back e (sheet_of es ++ r) g.0))
one_front (e ∷ es) (f ∷ fs) r t x y g h a b q =
    let s = same e f (sheet_of es ++ r) (sheet_of fs ++ t) g.0 h.0 (sym (append_assoc (bytes e) (sheet_of es) r) ∙ q ∙ append_assoc (bytes f) (sheet_of fs) t) in
    let n = one_front es fs r t x y g.1 h.1 a b s.1 in
    λ i. bytes (s.0 i) ++ n i

pub broken : BrokenLaw
broken s f g o b c =
    let n = one_front b.before c.before (drop f.place s) (drop g.place s) f.fault g.fault b.good c.good (unread s f o b) (unread s g o c) (b.is ∙ sym c.is) in
    let p : g.place ≡ f.place = sym c.length_before ∙ ap length (sym n) ∙ b.length_before in
    first f.place (drop f.place s) f g (All-drop (λ x. x < 256) f.place s o) b.refused (subst (λ (i : ℕ). RefusedAt i (drop i s) g) p c.refused)
