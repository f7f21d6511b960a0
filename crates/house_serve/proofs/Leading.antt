-- What the turns of a door come to at one clock.
use Rattle.std.proofs.Common.{◌≡◌, ◌⊎◌, inl, inr, ⊎_elim, ℕ, zero, suc, ◌+◌, ◌-◌, Bool, true, false, nat_eq, cond, List, [], ◌∷◌, ◌++◌, length, map, take, drop, get_or, Option, Some, None, refl, sym, ◌∙◌, ap, subst, arith, append_assoc, append-nil, length-append}
use Rattle.std.specs.Prelude.{find, option_map, Contains, slice_index_or}
use Rattle.std.specs.List.{AllByRecursion, flat_map}
use Rattle.std.proofs.lemmas.Bool.{cases_eq, ne_eqb, eq-eqb, eqb-true, and_parts}
use Rattle.std.proofs.lemmas.List.{drop_at}
use Rattle.std.proofs.Math.Seq.{take-append_seam}
use Rattle.std.proofs.lemmas.List.Elements.{Contains-append_left, Contains-append_right, Contains-push}
use Rattle.demand_set.specs.declared.reports.Report.{Report}
use Rattle.clock.specs.Reports.{demand_in, is_named}
use Rattle.clock.specs.Judging.{IsJudgement, IsInRound, judgement_of}
use Rattle.clock.specs.declared.clocks.Look.{Look}
use Rattle.clock.specs.declared.judging.Judgement.TheVariants as judged
use Rattle.clock.specs.declared.judging.Offered.{Offered}
use Rattle.clock.specs.declared.judging.Offered.TheVariants as said
use Rattle.clock.proofs.Judges.{judgement-is}
use Rattle.report_wire.proofs.Streams.{all-append}
use Rattle.clock_book.specs.DeskHistories.{reports_in, IsInDoubt}
use Rattle.clock_book.specs.Past.{owner_in}
use Rattle.clock_book.specs.declared.entries.Entry.{Entry}
use Rattle.clock_book.specs.declared.entries.Entry.TheVariants as entry
use Rattle.clock_book.specs.declared.origins.Origin.{Origin}
use Rattle.clock_book.proofs.Histories.{reports-append}
use Rattle.turn_desk.specs.Histories.{StartsWith, placed}
use Rattle.turn_desk.specs.Passes.{Known}
use Rattle.clock_family.specs.Turns.{IsCounted, PassOffers, PassLooks, clock_in}
use Rattle.clock_family.specs.Houses.{HousePassOf, still}
use Rattle.session.specs.declared.halls.Asked.{Asked}
use Rattle.session.specs.declared.halls.Asked.TheVariants as asked
use Rattle.session.specs.Turns.{Turn}
use Rattle.house_serve.specs.Houses.{PassAllows, seen_of, mark_place, mark_places, taken_place, taken_places, Holds, IsHeld}

-- a pass's own entries at a clock
abbrev pub own_of : HousePassOf → ℕ → List (ℕ × Entry)
own_of p clock = slice_index_or (map (λ q. q.own) p.passes) clock []

-- own entries that are marks, and those that are reports noted as offered, each as a report at its place
abbrev pub mark_in : ℕ → Entry → List (ℕ × Report)
mark_in place (entry.Offered r) = []
mark_in place (entry.Counted r) = []
mark_in place (entry.Mark r) = (place, r) ∷ []

abbrev pub offered_in : ℕ → Entry → List (ℕ × Report)
offered_in place (entry.Offered r) = (place, r) ∷ []
offered_in place (entry.Counted r) = []
offered_in place (entry.Mark r) = []

abbrev pub marks_own : List (ℕ × Entry) → List (ℕ × Report)
marks_own own = flat_map (λ (e : ℕ × Entry). mark_in e.0 e.1) own

abbrev pub offers_own : List (ℕ × Entry) → List (ℕ × Report)
offers_own own = flat_map (λ (e : ℕ × Entry). offered_in e.0 e.1) own

-- an own entry that is a report noted as counted: it was in doubt by the history before it
abbrev pub IsBehind : List Entry → ℕ × Entry → Type 0
IsBehind closed (place, entry.Offered r) = Unit {0}
IsBehind closed (place, entry.Counted r) = IsInDoubt (take place closed) r
IsBehind closed (place, entry.Mark r) = Unit {0}

abbrev pub AreBehind : List Entry → List (ℕ × Entry) → Type 0
AreBehind closed own = AllByRecursion (IsBehind closed) own

-- a mark, or a report that is noted as offered
abbrev IsPlain : Entry → Type 0
IsPlain (entry.Offered r) = Unit {0}
IsPlain (entry.Counted r) = ⊥
IsPlain (entry.Mark r) = Unit {0}

-- what was asked in a turn, if anything was, leads a pass on
abbrev pub LeadsBy : Option Asked → HousePassOf → HousePassOf → Type 0
LeadsBy None before now = now ≡ before
LeadsBy (Some a) before now = PassAllows before a now

-- the turns lead a pass from one standing to another
abbrev pub Leads : HousePassOf → List (Turn HousePassOf) → HousePassOf → Type 0
Leads before [] after = after ≡ before
Leads before (t ∷ ts) after = LeadsBy t.asked before t.now × Leads t.now ts after

pub starts_on : (x y z : List Entry) → StartsWith y x → StartsWith z y → StartsWith z x
starts_on x y z p q = (p.0 ++ q.0, q.1 ∙ ap (λ (l : List Entry). l ++ q.0) p.1 ∙ append_assoc x p.0 q.0)

starts_same : (x y : List Entry) → y ≡ x → StartsWith y x
starts_same x y e = ([], e ∙ sym (append-nil x))

get_map : {A B : Type 0} (f : A → B) (xs : List A) (k : ℕ) (d : A) → get_or (map f xs) k (f d) ≡ f (get_or xs k d)
get_map f [] k d = refl
get_map f (x ∷ xs) zero d = refl
get_map f (x ∷ xs) (suc k) d = get_map f xs k d

-- what holds of an earlier history's reports holds later
held_on : (r : Report) (before after : List Entry) → Holds r before → StartsWith after before → Holds r after
held_on r before after h p = subst (λ (l : List Report). Contains l r) (sym (ap reports_in p.1 ∙ reports-append before p.0)) (Contains-append_left (reports_in before) (reports_in p.0) r h)

held_new : (r : Report) (before : List Entry) → Holds r (before ++ entry.Offered r ∷ [])
held_new r before = subst (λ (l : List Report). Contains l r) (sym (reports-append before (entry.Offered r ∷ []))) (Contains-push (reports_in before) r)

-- a report that is found in its name with its demand is among the reports
named : (reports : List Report) (r : Report) → demand_in reports r.round r.bidder ≡ Some r.demand → Contains reports r
named [] r e = absurd (let f : None ≡ Some r.demand = e in cc)
named (q ∷ qs) r e = by (is_named r.round r.bidder q) refl e (λ f. named qs r f)
  where
    here : is_named r.round r.bidder q ≡ true → q.demand ≡ r.demand → Contains (q ∷ qs) r
    here t d =
        let both = and_parts (nat_eq q.round r.round) (nat_eq q.bidder r.bidder) t in
        let round : q.round ≡ r.round = eqb-true q.round r.round both.0 in
        let bidder : q.bidder ≡ r.bidder = eqb-true q.bidder r.bidder both.1 in
        (0, omega arith, (λ i. record { bidder = bidder i; round = round i; demand = d i }))

    by : (b : Bool) → is_named r.round r.bidder q ≡ b → option_map (λ (x : Report). x.demand) (cond b (Some q) (find (is_named r.round r.bidder) qs)) ≡ Some r.demand
        → (demand_in qs r.round r.bidder ≡ Some r.demand → Contains qs r) → Contains (q ∷ qs) r
    by true t f later = here t (let g : Some q.demand ≡ Some r.demand = f in cc)
    by false t f later = Contains-append_right (q ∷ []) qs r (later f)

again_held : (origin : Origin) (history : List Entry) (r : Report) → judgement_of (clock_in (owner_in origin) history) r ≡ judged.Again → Holds r history
again_held origin history r e =
    let is : IsInRound (clock_in (owner_in origin) history) r × (demand_in (reports_in history) r.round r.bidder ≡ Some r.demand) = subst (IsJudgement (clock_in (owner_in origin) history) r) e (judgement-is (clock_in (owner_in origin) history) r) in
    named (reports_in history) r is.1

few_counted : (history counted : List Entry) → IsCounted history counted → (counted ≡ []) ⊎ ((q : Report) × (counted ≡ entry.Counted q ∷ []))
few_counted history [] h = inl refl
few_counted history (entry.Counted q ∷ []) h = inr (q, refl)
few_counted history (entry.Counted q ∷ e ∷ es) h = absurd h
few_counted history (entry.Offered q ∷ es) h = absurd h
few_counted history (entry.Mark q ∷ es) h = absurd h

plain_behind : (closed : List Entry) (place : ℕ) (added : List Entry) → AllByRecursion IsPlain added → AreBehind closed (placed place added)
plain_behind closed place [] plain = tt
plain_behind closed place (entry.Offered r ∷ added) plain = (tt, plain_behind closed (place + 1) added plain.1)
plain_behind closed place (entry.Counted r ∷ added) plain = absurd plain.0
plain_behind closed place (entry.Mark r ∷ added) plain = (tt, plain_behind closed (place + 1) added plain.1)

-- an offer counts a report only where it is in doubt, and what it appends after that is not counted
counted_behind : (closed history counted added : List Entry) → IsCounted history counted → AllByRecursion IsPlain added → StartsWith closed history → AreBehind closed (placed (length history) (counted ++ added))
counted_behind closed history [] added is plain goes = plain_behind closed (length history) added plain
counted_behind closed history (entry.Counted q ∷ []) added is plain goes =
    let front : take (length history) closed ≡ history = ap (take (length history)) goes.1 ∙ take-append_seam history goes.0 in
    (subst (λ (l : List Entry). IsInDoubt l q) (sym front) is, plain_behind closed (length history + 1) added plain)
counted_behind closed history (entry.Counted q ∷ e ∷ es) added is plain goes = absurd is
counted_behind closed history (entry.Offered q ∷ es) added is plain goes = absurd is
counted_behind closed history (entry.Mark q ∷ es) added is plain goes = absurd is

-- the entries that an offer appends, after the one that it may count
appended : (place : ℕ) (counted added : List Entry) → (counted ≡ []) ⊎ ((q : Report) × (counted ≡ entry.Counted q ∷ []))
    → (marks_own (placed place (counted ++ added)) ≡ marks_own (placed (place + length counted) added))
    × (offers_own (placed place (counted ++ added)) ≡ offers_own (placed (place + length counted) added))
appended place counted added (inl e) =
    let P : List Entry → Type 0 = λ p. (marks_own (placed place (p ++ added)) ≡ marks_own (placed (place + length p) added)) × (offers_own (placed place (p ++ added)) ≡ offers_own (placed (place + length p) added)) in
    let n : place ≡ place + 0 = omega arith in
    subst P (sym e) (ap (λ (k : ℕ). marks_own (placed k added)) n, ap (λ (k : ℕ). offers_own (placed k added)) n)
appended place counted added (inr h) =
    let P : List Entry → Type 0 = λ p. (marks_own (placed place (p ++ added)) ≡ marks_own (placed (place + length p) added)) × (offers_own (placed place (p ++ added)) ≡ offers_own (placed (place + length p) added)) in
    subst P (sym h.1) (refl, refl)

-- the report of an offer at the place of the last entry, if that is a mark of it, or the report noted as offered
abbrev mark_by : ℕ → Report → Offered → List (ℕ × Report)
mark_by place r said.Taken = []
mark_by place r said.Again = []
mark_by place r (said.Refused judgement) = []
mark_by place r (said.Full needed) = []
mark_by place r said.DiskFault = (place, r) ∷ []
mark_by place r said.NoMemory = []

abbrev taken_by : ℕ → Report → Offered → List (ℕ × Report)
taken_by place r said.Taken = (place, r) ∷ []
taken_by place r said.Again = []
taken_by place r (said.Refused judgement) = []
taken_by place r (said.Full needed) = []
taken_by place r said.DiskFault = []
taken_by place r said.NoMemory = []

abbrev HeldBy : List Entry → Report → Offered → Type 0
HeldBy closed r said.Taken = Holds r closed
HeldBy closed r said.Again = Holds r closed
HeldBy closed r (said.Refused judgement) = Unit {0}
HeldBy closed r (said.Full needed) = Unit {0}
HeldBy closed r said.DiskFault = Unit {0}
HeldBy closed r said.NoMemory = Unit {0}

-- what a pass has seen and made in an offer that appended these entries after the one that may have been counted
record Grown (added : List Entry) (old new : Known Entry Origin) : Type 0 where
  pub place : ℕ
  pub entries : List (ℕ × Entry)
  pub starts : StartsWith new.seen old.seen
  pub size : length new.seen ≡ place + length added
  pub own : new.own ≡ old.own ++ entries
  pub marks : marks_own entries ≡ marks_own (placed place added)
  pub offers : offers_own entries ≡ offers_own (placed place added)
  pub behind : (closed : List Entry) → StartsWith closed new.seen → AreBehind closed entries

module _ (r : Report) (answer : Offered) (old new : Known Entry Origin) (h : PassOffers r answer old new) where
  grown : (added : List Entry) → AllByRecursion IsPlain added → h.after ≡ (h.before ++ h.offers.counted) ++ added → Grown added old new
  grown added plain is =
      let counted = h.offers.counted in
      let front : h.after ≡ h.before ++ (counted ++ added) = is ∙ append_assoc h.before counted added in
      let rest : drop (length h.before) h.after ≡ counted ++ added = ap (drop (length h.before)) front ∙ drop_at h.before (counted ++ added) (length h.before) refl in
      let two = appended (length h.before) counted added (few_counted h.before counted h.offers.is_counted) in
      let seen : new.seen ≡ h.after = ap (λ (q : Known Entry Origin). q.seen) h.gives in
      let a = length-append (h.before ++ counted) added in
      let b = length-append h.before counted in
      let s = ap length (seen ∙ is) in
      record {
        place = length h.before + length counted;
        entries = placed (length h.before) (counted ++ added);
        starts = starts_on old.seen h.before new.seen h.goes_on (counted ++ added, seen ∙ front);
        size = omega (arith, a, b, s);
        own = ap (λ (q : Known Entry Origin). q.own) h.gives ∙ ap (λ (l : List Entry). old.own ++ placed (length h.before) l) rest;
        marks = two.0;
        offers = two.1;
        behind = λ closed goes. counted_behind closed h.before counted added h.offers.is_counted plain (starts_on h.before new.seen closed (counted ++ added, seen ∙ front) goes);
      }

  seen_is : new.seen ≡ h.after
  seen_is = ap (λ (q : Known Entry Origin). q.seen) h.gives

-- an offer by a pass, and what it comes to in a closed book
record Offers (closed : List Entry) (r : Report) (answer : Offered) (old new : Known Entry Origin) : Type 0 where
  pub entries : List (ℕ × Entry)
  pub starts : StartsWith new.seen old.seen
  pub own : new.own ≡ old.own ++ entries
  pub marks : marks_own entries ≡ mark_by (length new.seen - 1) r answer
  pub offers : offers_own entries ≡ taken_by (length new.seen - 1) r answer
  pub held : StartsWith closed new.seen → HeldBy closed r answer
  pub behind : StartsWith closed new.seen → AreBehind closed entries

module _ (closed : List Entry) (r : Report) where
  -- an offer that appended nothing after what may have been counted
  nothing : (answer : Offered) (old new : Known Entry Origin) → Grown [] old new → mark_by (length new.seen - 1) r answer ≡ [] → taken_by (length new.seen - 1) r answer ≡ [] → (StartsWith closed new.seen → HeldBy closed r answer) → Offers closed r answer old new
  nothing answer old new g no_mark no_offer held = record { entries = g.entries; starts = g.starts; own = g.own; marks = g.marks ∙ sym no_mark; offers = g.offers ∙ sym no_offer; held = held; behind = g.behind closed }

  offers_by : (answer : Offered) (old new : Known Entry Origin) → PassOffers r answer old new → Offers closed r answer old new
  offers_by said.Taken old new h =
      let point = h.before ++ h.offers.counted in
      let is : h.after ≡ point ++ entry.Offered r ∷ [] = h.offers.appends.2 in
      let g = grown r said.Taken old new h (entry.Offered r ∷ []) (tt, tt) is in
      let n : g.place ≡ length new.seen - 1 = (let s = g.size in omega (arith, s)) in
      record {
        entries = g.entries;
        starts = g.starts;
        own = g.own;
        marks = g.marks;
        offers = g.offers ∙ ap (λ (k : ℕ). (k, r) ∷ []) n;
        held = λ goes. held_on r (point ++ entry.Offered r ∷ []) closed (held_new r point) (subst (λ (l : List Entry). StartsWith closed l) (seen_is r said.Taken old new h ∙ is) goes);
        behind = g.behind closed;
      }
  offers_by said.Again old new h =
      let point = h.before ++ h.offers.counted in
      let is : h.after ≡ point = h.offers.appends.1 in
      nothing said.Again old new (grown r said.Again old new h [] tt (is ∙ sym (append-nil point))) refl refl
      (λ goes. held_on r point closed (again_held h.origin point r h.offers.appends.0) (subst (λ (l : List Entry). StartsWith closed l) (seen_is r said.Again old new h ∙ is) goes))
  offers_by (said.Refused judgement) old new h =
      let point = h.before ++ h.offers.counted in
      nothing (said.Refused judgement) old new (grown r (said.Refused judgement) old new h [] tt (h.offers.appends.3 ∙ sym (append-nil point))) refl refl (λ goes. tt)
  offers_by (said.Full needed) old new h =
      let point = h.before ++ h.offers.counted in
      nothing (said.Full needed) old new (grown r (said.Full needed) old new h [] tt (h.offers.appends.3 ∙ sym (append-nil point))) refl refl (λ goes. tt)
  offers_by said.DiskFault old new h =
      let g = grown r said.DiskFault old new h (entry.Mark r ∷ []) (tt, tt) h.offers.appends in
      let n : g.place ≡ length new.seen - 1 = (let s = g.size in omega (arith, s)) in
      record { entries = g.entries; starts = g.starts; own = g.own; marks = g.marks ∙ ap (λ (k : ℕ). (k, r) ∷ []) n; offers = g.offers; held = λ goes. tt; behind = g.behind closed }
  offers_by said.NoMemory old new h = absurd h.offers.appends

hit : {A : Type 0} (c clock : ℕ) (x : A) → c ≡ clock → cond (nat_eq c clock) (x ∷ []) [] ≡ x ∷ []
hit c clock x e = ap (λ (b : Bool). cond b (x ∷ []) []) (eq-eqb c clock e)

miss : {A : Type 0} (c clock : ℕ) (x : A) → (c ≡ clock → ⊥) → cond (nat_eq c clock) (x ∷ []) [] ≡ []
miss c clock x e = ap (λ (b : Bool). cond b (x ∷ []) []) (ne_eqb c clock e)

-- what was asked in an offer to this clock
mark_here : (clock : ℕ) (now : HousePassOf) (bidder round : ℕ) (demand : List (List ℕ)) (answer : Offered) → mark_place clock now (Some (asked.Offer clock bidder round demand answer)) ≡ mark_by (length (seen_of now clock) - 1) (record { bidder = bidder; round = round; demand = demand }) answer
mark_here clock now bidder round demand said.Taken = refl
mark_here clock now bidder round demand said.Again = refl
mark_here clock now bidder round demand (said.Refused judgement) = refl
mark_here clock now bidder round demand (said.Full needed) = refl
mark_here clock now bidder round demand said.DiskFault =
    let r : Report = record { bidder = bidder; round = round; demand = demand } in
    hit clock clock (length (seen_of now clock) - 1, r) refl
mark_here clock now bidder round demand said.NoMemory = refl

taken_here : (clock : ℕ) (now : HousePassOf) (bidder round : ℕ) (demand : List (List ℕ)) (answer : Offered) → taken_place clock now (Some (asked.Offer clock bidder round demand answer)) ≡ taken_by (length (seen_of now clock) - 1) (record { bidder = bidder; round = round; demand = demand }) answer
taken_here clock now bidder round demand said.Taken =
    let r : Report = record { bidder = bidder; round = round; demand = demand } in
    hit clock clock (length (seen_of now clock) - 1, r) refl
taken_here clock now bidder round demand said.Again = refl
taken_here clock now bidder round demand (said.Refused judgement) = refl
taken_here clock now bidder round demand (said.Full needed) = refl
taken_here clock now bidder round demand said.DiskFault = refl
taken_here clock now bidder round demand said.NoMemory = refl

held_here : (clock : ℕ) (closed : List Entry) (bidder round : ℕ) (demand : List (List ℕ)) (answer : Offered) → HeldBy closed (record { bidder = bidder; round = round; demand = demand }) answer → IsHeld clock closed (Some (asked.Offer clock bidder round demand answer))
held_here clock closed bidder round demand said.Taken h = λ same. h
held_here clock closed bidder round demand said.Again h = λ same. h
held_here clock closed bidder round demand (said.Refused judgement) h = tt
held_here clock closed bidder round demand (said.Full needed) h = tt
held_here clock closed bidder round demand said.DiskFault h = tt
held_here clock closed bidder round demand said.NoMemory h = tt

-- those of an offer to another
mark_else : (c clock : ℕ) (now : HousePassOf) (bidder round : ℕ) (demand : List (List ℕ)) (answer : Offered) → (c ≡ clock → ⊥) → mark_place clock now (Some (asked.Offer c bidder round demand answer)) ≡ []
mark_else c clock now bidder round demand said.Taken other = refl
mark_else c clock now bidder round demand said.Again other = refl
mark_else c clock now bidder round demand (said.Refused judgement) other = refl
mark_else c clock now bidder round demand (said.Full needed) other = refl
mark_else c clock now bidder round demand said.DiskFault other =
    let r : Report = record { bidder = bidder; round = round; demand = demand } in
    miss c clock (length (seen_of now clock) - 1, r) other
mark_else c clock now bidder round demand said.NoMemory other = refl

taken_else : (c clock : ℕ) (now : HousePassOf) (bidder round : ℕ) (demand : List (List ℕ)) (answer : Offered) → (c ≡ clock → ⊥) → taken_place clock now (Some (asked.Offer c bidder round demand answer)) ≡ []
taken_else c clock now bidder round demand said.Taken other =
    let r : Report = record { bidder = bidder; round = round; demand = demand } in
    miss c clock (length (seen_of now clock) - 1, r) other
taken_else c clock now bidder round demand said.Again other = refl
taken_else c clock now bidder round demand (said.Refused judgement) other = refl
taken_else c clock now bidder round demand (said.Full needed) other = refl
taken_else c clock now bidder round demand said.DiskFault other = refl
taken_else c clock now bidder round demand said.NoMemory other = refl

held_else : (c clock : ℕ) (closed : List Entry) (bidder round : ℕ) (demand : List (List ℕ)) (answer : Offered) → (c ≡ clock → ⊥) → IsHeld clock closed (Some (asked.Offer c bidder round demand answer))
held_else c clock closed bidder round demand said.Taken other = λ same. absurd (other same)
held_else c clock closed bidder round demand said.Again other = λ same. absurd (other same)
held_else c clock closed bidder round demand (said.Refused judgement) other = tt
held_else c clock closed bidder round demand (said.Full needed) other = tt
held_else c clock closed bidder round demand said.DiskFault other = tt
held_else c clock closed bidder round demand said.NoMemory other = tt

marks_on : (xs ys : List (ℕ × Entry)) → marks_own (xs ++ ys) ≡ marks_own xs ++ marks_own ys
marks_on [] ys = refl
marks_on ((k, entry.Offered r) ∷ xs) ys = marks_on xs ys
marks_on ((k, entry.Counted r) ∷ xs) ys = marks_on xs ys
marks_on ((k, entry.Mark r) ∷ xs) ys = ap (λ (l : List (ℕ × Report)). (k, r) ∷ l) (marks_on xs ys)

offers_on : (xs ys : List (ℕ × Entry)) → offers_own (xs ++ ys) ≡ offers_own xs ++ offers_own ys
offers_on [] ys = refl
offers_on ((k, entry.Offered r) ∷ xs) ys = ap (λ (l : List (ℕ × Report)). (k, r) ∷ l) (offers_on xs ys)
offers_on ((k, entry.Counted r) ∷ xs) ys = offers_on xs ys
offers_on ((k, entry.Mark r) ∷ xs) ys = offers_on xs ys

module _ (blank : Known Entry Origin) (clock : ℕ) (closed : List Entry) where
  -- the pass of this clock
  abbrev pub pass_of : HousePassOf → Known Entry Origin
  pass_of p = get_or p.passes clock (still blank)

  pub seen_at : (p : HousePassOf) → seen_of p clock ≡ (pass_of p).seen
  seen_at p = get_map (λ (q : Known Entry Origin). q.seen) p.passes clock (still blank)

  pub own_at : (p : HousePassOf) → own_of p clock ≡ (pass_of p).own
  own_at p = get_map (λ (q : Known Entry Origin). q.own) p.passes clock (still blank)

  -- one turn, at this clock
  record Turned (a : Option Asked) (before now : HousePassOf) : Type 0 where
    pub seen : StartsWith (seen_of now clock) (seen_of before clock)
    pub new : List (ℕ × Entry)
    pub own : own_of now clock ≡ own_of before clock ++ new
    pub marks : marks_own new ≡ mark_place clock now a
    pub takens : offers_own new ≡ taken_place clock now a
    pub held : StartsWith closed (seen_of now clock) → IsHeld clock closed a
    pub behind : StartsWith closed (seen_of now clock) → AreBehind closed new

  stays : (a : Option Asked) (before now : HousePassOf) → seen_of now clock ≡ seen_of before clock → own_of now clock ≡ own_of before clock → mark_place clock now a ≡ [] → taken_place clock now a ≡ [] → IsHeld clock closed a → Turned a before now
  stays a before now seen own no_mark no_taken held = record {
    seen = starts_same (seen_of before clock) (seen_of now clock) seen;
    new = [];
    own = own ∙ sym (append-nil (own_of before clock));
    marks = sym no_mark;
    takens = sym no_taken;
    held = λ goes. held;
    behind = λ goes. tt;
  }

  same_seen : (before now : HousePassOf) → pass_of now ≡ pass_of before → seen_of now clock ≡ seen_of before clock
  same_seen before now e = seen_at now ∙ ap (λ (q : Known Entry Origin). q.seen) e ∙ sym (seen_at before)

  same_own : (before now : HousePassOf) → pass_of now ≡ pass_of before → own_of now clock ≡ own_of before clock
  same_own before now e = own_at now ∙ ap (λ (q : Known Entry Origin). q.own) e ∙ sym (own_at before)

  starts_at : (before now : HousePassOf) → StartsWith (pass_of now).seen (pass_of before).seen → StartsWith (seen_of now clock) (seen_of before clock)
  starts_at before now p = (p.0, seen_at now ∙ p.1 ∙ ap (λ (l : List Entry). l ++ p.0) (sym (seen_at before)))

  own_on : (before now : HousePassOf) (new : List (ℕ × Entry)) → (pass_of now).own ≡ (pass_of before).own ++ new → own_of now clock ≡ own_of before clock ++ new
  own_on before now new e = own_at now ∙ e ∙ ap (λ (l : List (ℕ × Entry)). l ++ new) (sym (own_at before))

  -- the book was closed with what the pass has seen as a front
  goes_at : (now : HousePassOf) → StartsWith closed (seen_of now clock) → StartsWith closed (pass_of now).seen
  goes_at now goes = subst (λ (l : List Entry). StartsWith closed l) (seen_at now) goes

  looked : (c : ℕ) (look : Look) (before now : HousePassOf) → PassLooks look (pass_of before) (pass_of now) → Turned (Some (asked.Look c look)) before now
  looked c look before now h =
      let seen : (pass_of now).seen ≡ h.before = ap (λ (q : Known Entry Origin). q.seen) h.same in
      record {
        seen = starts_at before now (h.goes_on.0, seen ∙ h.goes_on.1);
        new = [];
        own = own_on before now [] (ap (λ (q : Known Entry Origin). q.own) h.same ∙ sym (append-nil (pass_of before).own));
        marks = refl;
        takens = refl;
        held = λ goes. tt;
        behind = λ goes. tt;
      }

  offered : (bidder round : ℕ) (demand : List (List ℕ)) (answer : Offered) (before now : HousePassOf) → PassOffers (record { bidder = bidder; round = round; demand = demand }) answer (pass_of before) (pass_of now) → Turned (Some (asked.Offer clock bidder round demand answer)) before now
  offered bidder round demand answer before now h =
      let r : Report = record { bidder = bidder; round = round; demand = demand } in
      let o = offers_by closed r answer (pass_of before) (pass_of now) h in
      let size : length (seen_of now clock) - 1 ≡ length (pass_of now).seen - 1 = ap (λ (l : List Entry). length l - 1) (seen_at now) in
      record {
        seen = starts_at before now o.starts;
        new = o.entries;
        own = own_on before now o.entries o.own;
        marks = o.marks ∙ ap (λ (k : ℕ). mark_by k r answer) (sym size) ∙ sym (mark_here clock now bidder round demand answer);
        takens = o.offers ∙ ap (λ (k : ℕ). taken_by k r answer) (sym size) ∙ sym (taken_here clock now bidder round demand answer);
        held = λ goes. held_here clock closed bidder round demand answer (o.held (goes_at now goes));
        behind = λ goes. o.behind (goes_at now goes);
      }

  turned : (a : Option Asked) (before now : HousePassOf) → LeadsBy a before now → Turned a before now
  turned None before now h = stays None before now (ap (λ (p : HousePassOf). seen_of p clock) h) (ap (λ (p : HousePassOf). own_of p clock) h) refl refl tt
  turned (Some (asked.Look c look)) before now h =
      ⊎_elim
      (λ (e : clock ≡ c). looked c look before now (subst (λ (k : ℕ). PassLooks look (get_or before.passes k (still blank)) (get_or now.passes k (still blank))) (sym e) (h.looks (still blank))))
      (λ other. let same = h.others clock (still blank) other in stays (Some (asked.Look c look)) before now (same_seen before now same) (same_own before now same) refl refl tt)
      (cases_eq clock c)
  turned (Some (asked.Offer c bidder round demand answer)) before now h =
      ⊎_elim
      (λ (e : clock ≡ c). subst (λ (k : ℕ). Turned (Some (asked.Offer k bidder round demand answer)) before now) e
      (offered bidder round demand answer before now
      (subst (λ (k : ℕ). PassOffers (record { bidder = bidder; round = round; demand = demand }) answer (get_or before.passes k (still blank)) (get_or now.passes k (still blank))) (sym e) (h.offers (still blank)))))
      (λ other.
      let same = h.others clock (still blank) other in
      let apart : c ≡ clock → ⊥ = λ e. other (sym e) in
      stays (Some (asked.Offer c bidder round demand answer)) before now (same_seen before now same) (same_own before now same)
      (mark_else c clock now bidder round demand answer apart) (taken_else c clock now bidder round demand answer apart) (held_else c clock closed bidder round demand answer apart))
      (cases_eq clock c)

  -- a door's turns, at this clock
  pub record Led (ts : List (Turn HousePassOf)) (before after : HousePassOf) : Type 0 where
    pub seen : StartsWith (seen_of after clock) (seen_of before clock)
    pub new : List (ℕ × Entry)
    pub own : own_of after clock ≡ own_of before clock ++ new
    pub points : StartsWith closed (seen_of after clock) → AllByRecursion (λ (t : Turn HousePassOf). StartsWith (seen_of t.now clock) (seen_of before clock) × StartsWith closed (seen_of t.now clock)) ts
    pub marks : marks_own new ≡ mark_places clock ts
    pub takens : offers_own new ≡ taken_places clock ts
    pub held : StartsWith closed (seen_of after clock) → AllByRecursion (λ (t : Turn HousePassOf). IsHeld clock closed t.asked) ts
    pub behind : StartsWith closed (seen_of after clock) → AreBehind closed new

  earlier : (ts : List (Turn HousePassOf)) (x y : List Entry) → StartsWith y x → AllByRecursion (λ (t : Turn HousePassOf). StartsWith (seen_of t.now clock) y × StartsWith closed (seen_of t.now clock)) ts
      → AllByRecursion (λ (t : Turn HousePassOf). StartsWith (seen_of t.now clock) x × StartsWith closed (seen_of t.now clock)) ts
  earlier [] x y p h = tt
  earlier (t ∷ ts) x y p h = ((starts_on x y (seen_of t.now clock) p h.0.0, h.0.1), earlier ts x y p h.1)

  pub led : (ts : List (Turn HousePassOf)) (before after : HousePassOf) → Leads before ts after → Led ts before after
  led [] before after h = record {
    seen = starts_same (seen_of before clock) (seen_of after clock) (ap (λ (p : HousePassOf). seen_of p clock) h);
    new = [];
    own = ap (λ (p : HousePassOf). own_of p clock) h ∙ sym (append-nil (own_of before clock));
    points = λ goes. tt;
    marks = refl;
    takens = refl;
    held = λ goes. tt;
    behind = λ goes. tt;
  }
  led (t ∷ ts) before after h =
      let a = turned t.asked before t.now h.0 in
      let b = led ts t.now after h.1 in
      let on : StartsWith closed (seen_of after clock) → StartsWith closed (seen_of t.now clock) = λ goes. starts_on (seen_of t.now clock) (seen_of after clock) closed b.seen goes in
      record {
        seen = starts_on (seen_of before clock) (seen_of t.now clock) (seen_of after clock) a.seen b.seen;
        new = a.new ++ b.new;
        own = b.own ∙ ap (λ (l : List (ℕ × Entry)). l ++ b.new) a.own ∙ append_assoc (own_of before clock) a.new b.new;
        points = λ goes. ((a.seen, on goes), earlier ts (seen_of before clock) (seen_of t.now clock) a.seen (b.points goes));
        marks = marks_on a.new b.new ∙ (λ i. a.marks i ++ b.marks i);
        takens = offers_on a.new b.new ∙ (λ i. a.takens i ++ b.takens i);
        held = λ goes. (a.held (on goes), b.held goes);
        behind = λ goes. all-append (IsBehind closed) a.new b.new (a.behind (on goes)) (b.behind goes);
      }
