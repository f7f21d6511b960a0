-- Where the entries of a desk's history stand, and what turns they come from.
use Rattle.std.proofs.Common.{◌≡◌, ◌<◌, ◌≤◌, ◌⊎◌, inl, inr, ℕ, zero, suc, ◌+◌, ◌-◌, Bool, true, false, nat_eq, cond, List, [], ◌∷◌, ◌++◌, length, map, drop, Option, Some, None, slice_get, arith, refl, sym, ◌∙◌, ap, subst, append_assoc, take-append-drop}
use Rattle.std.proofs.lemmas.Bool.{cases_lt}
use Rattle.std.proofs.lemmas.Bool.Decides.{nat_tests}
use Rattle.demand_set.specs.declared.reports.Report.{Report}
use Rattle.clock.specs.declared.judging.Offered.{Offered as Answer}
use Rattle.clock.specs.declared.judging.Offered.TheVariants as said
use Rattle.clock_book.specs.declared.entries.Entry.{Entry}
use Rattle.clock_book.specs.declared.entries.Entry.TheVariants as entry
use Rattle.clock_book.specs.DeskHistories.{reports_in}
use Rattle.clock_family.specs.Houses.{HousePassOf}
use Rattle.session.specs.declared.halls.Asked.{Asked}
use Rattle.session.specs.declared.halls.Asked.TheVariants as asked
use Rattle.session.specs.Turns.{Turn}
use Rattle.house_serve.specs.Houses.{Joins, IsHeld, mark_place, mark_places, seen_of, taken_place, taken_places, times}
use Rattle.house_lives.specs.Lives.{IsOfferOf}
use Rattle.clock_book.proofs.Histories.{reports-append}
use Rattle.house_lives.proofs.Members.{In, all-in, from-flat, in-either, in-from, in-left}

-- places in lists

pub get-behind : {A : Type 0} (xs ys : List A) (x : A) → slice_get (xs ++ x ∷ ys) (length xs) ≡ Some x
get-behind [] ys x = refl
get-behind (y ∷ xs) ys x = get-behind xs ys x

pub get-right : {A : Type 0} (xs ys : List A) (k : ℕ) → slice_get (xs ++ ys) (length xs + k) ≡ slice_get ys k
get-right [] ys k = ap (slice_get ys) (let e : 0 + k ≡ k = omega arith in e)
get-right (x ∷ xs) ys k = ap (slice_get (x ∷ (xs ++ ys))) (let e : suc (length xs) + k ≡ suc (length xs + k) = omega arith in e) ∙ get-right xs ys k

get-left : {A : Type 0} (xs ys : List A) (k : ℕ) → k < length xs → slice_get (xs ++ ys) k ≡ slice_get xs k
get-left [] ys k below = absurd (omega (arith, below))
get-left (x ∷ xs) ys zero below = refl
get-left (x ∷ xs) ys (suc k) below = get-left xs ys k (omega (arith, below))

-- where a report of entries stands, and how it is noted there
pub record IsNotedAt (entries : List Entry) (r : Report) : Type 0 where
  pub place : ℕ
  pub noted : (slice_get entries place ≡ Some (entry.Offered r)) ⊎ (slice_get entries place ≡ Some (entry.Counted r))

noted-later : (e : Entry) (entries : List Entry) (r : Report) → IsNotedAt entries r → IsNotedAt (e ∷ entries) r
noted-later e entries r at = record { place = suc at.place; noted = at.noted }

pub noted-at : (entries : List Entry) (r : Report) → In r (reports_in entries) → IsNotedAt entries r
noted-at [] r h = absurd h
noted-at (entry.Offered q ∷ entries) r (inl e) = record { place = 0; noted = inl (ap (λ (x : Report). Some (entry.Offered x)) e) }
noted-at (entry.Offered q ∷ entries) r (inr h) = noted-later (entry.Offered q) entries r (noted-at entries r h)
noted-at (entry.Counted q ∷ entries) r (inl e) = record { place = 0; noted = inr (ap (λ (x : Report). Some (entry.Counted x)) e) }
noted-at (entry.Counted q ∷ entries) r (inr h) = noted-later (entry.Counted q) entries r (noted-at entries r h)
noted-at (entry.Mark q ∷ entries) r h = noted-later (entry.Mark q) entries r (noted-at entries r h)

-- where each entry is a report that was offered, no mark stands
pub no-mark : (rs : List Report) (k : ℕ) (r : Report) → slice_get (map entry.Offered rs) k ≡ Some (entry.Mark r) → ⊥
no-mark [] k r e = absurd (let f : None ≡ Some (entry.Mark r) = e in cc)
no-mark (q ∷ rs) zero r e = absurd (let f : Some (entry.Offered q) ≡ Some (entry.Mark r) = e in cc)
no-mark (q ∷ rs) (suc k) r e = no-mark rs k r e

-- a place that is counted once is in the list
pub record IsPlaced (k : ℕ) (places : List (ℕ × Report)) : Type 0 where
  pub r : Report
  pub in_list : In {A = ℕ × Report} (k, r) places

pub placed : (k : ℕ) (places : List (ℕ × Report)) → 1 ≤ times k places → IsPlaced k places
placed k [] once = absurd (omega (arith, once))
placed k ((n, q) ∷ places) once = by (nat_eq n k) refl once (placed k places)
  where
    by : (b : Bool) → nat_eq n k ≡ b → 1 ≤ cond b 1 0 + times k places → (1 ≤ times k places → IsPlaced k places) → IsPlaced k ((n, q) ∷ places)
    by true e once later = let same : n ≡ k = grind (arith, nat_tests) in record { r = q; in_list = inl (λ i. (same i, q)) }
    by false e once later = let rest = later (omega (arith, once)) in record { r = rest.r; in_list = inr rest.in_list }

-- the turn in which an offer to this clock was answered Taken, or by a fault of the disk

taken-by : (clock : ℕ) (now : HousePassOf) (o : Option Asked) (k : ℕ) (q : Report) → In {A = ℕ × Report} (k, q) (taken_place clock now o) → o ≡ Some (asked.Offer clock q.bidder q.round q.demand said.Taken)
taken-by clock now None k q h = absurd h
taken-by clock now (Some (asked.Look c look)) k q h = absurd h
taken-by clock now (Some (asked.Offer c b n d said.Taken)) k q h = by (nat_eq c clock) refl h
  where
    by : (t : Bool) → nat_eq c clock ≡ t → In {A = ℕ × Report} (k, q) (cond t ((length (seen_of now clock) - 1, record { bidder = b; round = n; demand = d }) ∷ []) []) → Some (asked.Offer c b n d said.Taken) ≡ Some (asked.Offer clock q.bidder q.round q.demand said.Taken)
    by true e (inl same) = let at : c ≡ clock = grind (arith, nat_tests) in λ i. Some (asked.Offer (at i) (same i).1.bidder (same i).1.round (same i).1.demand said.Taken)
    by true e (inr h) = absurd h
    by false e h = absurd h
taken-by clock now (Some (asked.Offer c b n d said.Again)) k q h = absurd h
taken-by clock now (Some (asked.Offer c b n d (said.Refused j))) k q h = absurd h
taken-by clock now (Some (asked.Offer c b n d (said.Full j))) k q h = absurd h
taken-by clock now (Some (asked.Offer c b n d said.DiskFault)) k q h = absurd h
taken-by clock now (Some (asked.Offer c b n d said.NoMemory)) k q h = absurd h

marked-by : (clock : ℕ) (now : HousePassOf) (o : Option Asked) (k : ℕ) (q : Report) → In {A = ℕ × Report} (k, q) (mark_place clock now o) → o ≡ Some (asked.Offer clock q.bidder q.round q.demand said.DiskFault)
marked-by clock now None k q h = absurd h
marked-by clock now (Some (asked.Look c look)) k q h = absurd h
marked-by clock now (Some (asked.Offer c b n d said.DiskFault)) k q h = by (nat_eq c clock) refl h
  where
    by : (t : Bool) → nat_eq c clock ≡ t → In {A = ℕ × Report} (k, q) (cond t ((length (seen_of now clock) - 1, record { bidder = b; round = n; demand = d }) ∷ []) [])
        → Some (asked.Offer c b n d said.DiskFault) ≡ Some (asked.Offer clock q.bidder q.round q.demand said.DiskFault)
    by true e (inl same) = let at : c ≡ clock = grind (arith, nat_tests) in λ i. Some (asked.Offer (at i) (same i).1.bidder (same i).1.round (same i).1.demand said.DiskFault)
    by true e (inr h) = absurd h
    by false e h = absurd h
marked-by clock now (Some (asked.Offer c b n d said.Taken)) k q h = absurd h
marked-by clock now (Some (asked.Offer c b n d said.Again)) k q h = absurd h
marked-by clock now (Some (asked.Offer c b n d (said.Refused j))) k q h = absurd h
marked-by clock now (Some (asked.Offer c b n d (said.Full j))) k q h = absurd h
marked-by clock now (Some (asked.Offer c b n d said.NoMemory)) k q h = absurd h

-- a turn among these in which the report was offered to the clock, and answered so
pub record HasTurn (clock : ℕ) (turns : List (Turn HousePassOf)) (r : Report) (answer : Answer) : Type 0 where
  pub turn : Turn HousePassOf
  pub in_list : In turn turns
  pub is : IsOfferOf clock r answer turn

-- the report is that of an offer that was answered Taken or by a fault of the disk
pub data IsSentAt (clock : ℕ) (turns : List (Turn HousePassOf)) (r : Report) : Type 0 where
  Took : HasTurn clock turns r said.Taken → IsSentAt clock turns r
  Failed : HasTurn clock turns r said.DiskFault → IsSentAt clock turns r

module _ (opening closed : List Entry) (turns : List (Turn HousePassOf)) (clock : ℕ) (joins : Joins opening closed turns clock) where
  taken-turn : (k : ℕ) (r : Report) → length opening ≤ k → slice_get closed k ≡ Some (entry.Offered r) → HasTurn clock turns r said.Taken
  taken-turn k r low at =
      let one = joins.taken k r low at in
      let p = placed k (taken_places clock turns) (omega (arith, one)) in
      let stands = (all-in (λ (e : ℕ × Report). (length opening ≤ e.0) × (slice_get closed e.0 ≡ Some (entry.Offered e.1))) (taken_places clock turns) (k, p.r) joins.took p.in_list).1 in
      let same : p.r ≡ r = (let f : Some (entry.Offered p.r) ≡ Some (entry.Offered r) = sym stands ∙ at in cc) in
      let from = from-flat (λ (t : Turn HousePassOf). taken_place clock t.now t.asked) turns (k, p.r) p.in_list in
      let is = taken-by clock from.one.now from.one.asked k p.r from.has in
      record { turn = from.one; in_list = from.in_list; is = subst (λ (q : Report). IsOfferOf clock q said.Taken from.one) same is }

  marked-turn : (k : ℕ) (r : Report) → length opening ≤ k → slice_get closed k ≡ Some (entry.Mark r) → HasTurn clock turns r said.DiskFault
  marked-turn k r low at =
      let one = joins.faulted k r low at in
      let p = placed k (mark_places clock turns) (omega (arith, one)) in
      let stands = (all-in (λ (e : ℕ × Report). (length opening ≤ e.0) × (slice_get closed e.0 ≡ Some (entry.Mark e.1))) (mark_places clock turns) (k, p.r) joins.marked p.in_list).1 in
      let same : p.r ≡ r = (let f : Some (entry.Mark p.r) ≡ Some (entry.Mark r) = sym stands ∙ at in cc) in
      let from = from-flat (λ (t : Turn HousePassOf). mark_place clock t.now t.asked) turns (k, p.r) p.in_list in
      let is = marked-by clock from.one.now from.one.asked k p.r from.has in
      record { turn = from.one; in_list = from.in_list; is = subst (λ (q : Report). IsOfferOf clock q said.DiskFault from.one) same is }

  -- a report of which the history has a mark, where the opening has none, was sent
  pub doubted-turn : (rs : List Report) (before behind : List Entry) (r : Report) → opening ≡ map entry.Offered rs → closed ≡ before ++ entry.Mark r ∷ behind → HasTurn clock turns r said.DiskFault
  doubted-turn rs before behind r fresh is = of (cases_lt (length before) (length opening))
    where
      at : slice_get closed (length before) ≡ Some (entry.Mark r)
      at = ap (λ l. slice_get l (length before)) is ∙ get-behind before behind (entry.Mark r)

      of : (length before < length opening) ⊎ (length opening ≤ length before) → HasTurn clock turns r said.DiskFault
      of (inl less) =
          let here : slice_get (map entry.Offered rs) (length before) ≡ Some (entry.Mark r) =
          ap (λ l. slice_get l (length before)) (sym fresh) ∙ sym (get-left opening joins.opened.0 (length before) less) ∙ ap (λ l. slice_get l (length before)) (sym joins.opened.1) ∙ at in
          absurd (no-mark rs (length before) r here)
      of (inr more) = marked-turn (length before) r more at

  -- what was added since the opening
  abbrev more : List Entry
  more = joins.opened.0

  -- each report of the history at the closing is one of that at the opening, or was sent
  pub report-sent : (rs : List Report) (r : Report) → opening ≡ map entry.Offered rs → In r (reports_in closed) → In r (reports_in opening) ⊎ IsSentAt clock turns r
  report-sent rs r fresh h = of (in-parts h)
    where
      in-parts : In r (reports_in closed) → In r (reports_in opening) ⊎ In r (reports_in more)
      in-parts g = in-either (reports_in opening) (reports_in more) r (subst (In r) (ap reports_in joins.opened.1 ∙ reports-append opening more) g)

      at-place : (at : IsNotedAt more r) → (e : Entry) → slice_get more at.place ≡ Some e → slice_get closed (length opening + at.place) ≡ Some e
      at-place at e is = ap (λ l. slice_get l (length opening + at.place)) joins.opened.1 ∙ get-right opening more at.place ∙ is

      noted : (at : IsNotedAt more r) → (slice_get more at.place ≡ Some (entry.Offered r)) ⊎ (slice_get more at.place ≡ Some (entry.Counted r)) → IsSentAt clock turns r
      noted at (inl offered) = Took (taken-turn (length opening + at.place) r (omega arith) (at-place at (entry.Offered r) offered))
      noted at (inr counted) =
          let k = length opening + at.place in
          let doubt = joins.counted k r (omega arith) (at-place at (entry.Counted r) counted) in
          let whole : closed ≡ doubt.before ++ entry.Mark r ∷ (doubt.behind ++ drop k closed) =
          sym (take-append-drop k closed) ∙ ap (λ l. l ++ drop k closed) doubt.is ∙ append_assoc doubt.before (entry.Mark r ∷ doubt.behind) (drop k closed) in
          Failed (doubted-turn rs doubt.before (doubt.behind ++ drop k closed) r fresh whole)

      of : In r (reports_in opening) ⊎ In r (reports_in more) → In r (reports_in opening) ⊎ IsSentAt clock turns r
      of (inl old) = inl old
      of (inr new) = let at = noted-at more r new in inr (noted at at.noted)

  -- a report that was answered Taken or Again is one of the history at the closing
  pub answered-held : (t : Turn HousePassOf) (r : Report) → In t turns → IsOfferOf clock r said.Taken t ⊎ IsOfferOf clock r said.Again t → In r (reports_in closed)
  answered-held t r at (inl taken) = in-from (reports_in closed) r ((subst (IsHeld clock closed) taken (all-in (λ (u : Turn HousePassOf). IsHeld clock closed u.asked) turns t joins.held at)) refl)
  answered-held t r at (inr again) = in-from (reports_in closed) r ((subst (IsHeld clock closed) again (all-in (λ (u : Turn HousePassOf). IsHeld clock closed u.asked) turns t joins.held at)) refl)

  -- each report of the history at the opening is one of that at the closing
  pub opening-held : (r : Report) → In r (reports_in opening) → In r (reports_in closed)
  opening-held r h = subst (In r) (sym (ap reports_in joins.opened.1 ∙ reports-append opening joins.opened.0)) (in-left (reports_in opening) (reports_in joins.opened.0) r h)
