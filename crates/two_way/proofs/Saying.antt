-- Who demands what it demanded in the round before says it again.
use Rattle.std.proofs.Common.{◌≡◌, ◌≢◌, ◌<◌, ◌≤◌, ◌⊎◌, inl, inr, ℕ, zero, suc, ◌+◌, Bool, true, false, not, nat_eq, cond, List, [], ◌∷◌, ◌++◌, length, get_or, Some, None, is_some, sym, ◌∙◌, ap, arith, subst}
use Rattle.std.specs.Prelude.{option_map, unwrap_or, ℤ}
use Rattle.std.specs.List.{range_with_len}
use Rattle.std.proofs.lemmas.Bool.{cases_eq}
use Rattle.std.proofs.lemmas.Bool.Decides.{nat_tests}
use Rattle.lot_base.specs.Demands.{IsDemand}
use Rattle.lot_base.specs.Economy.{demand, without}
use Rattle.lot_base.specs.declared.auction_terms.Terms.{Terms}
use Rattle.demand_set.specs.declared.reports.Report.{Report}
use Rattle.clock.specs.Reports.{is_named, demand_in, members}
use Rattle.clock.specs.Judging.{is_member}
use Rattle.clock.proofs.Append.{absent-beyond}
use Rattle.clock.proofs.Judges.{is-member}
use Rattle.clock.proofs.Path.{compare-or}
use Rattle.clock.proofs.Present.{reported}
use Rattle.trial.specs.Trials.{true_report, round_reports}
use Rattle.trial.proofs.Finding.{find-after}
use Rattle.trial.proofs.Telling.{get-same}
use Rattle.trial.proofs.Leading.{Among, find-told}
use Rattle.two_way.specs.Histories.{TwoWayHistory, as_clock, members_in}
use Rattle.two_way.specs.Standing.{steps_of, last_round, prices_of, again_by}
use Rattle.two_way.specs.Bidding.{IsBidder, AreBidders, HaveFollowed, HaveSaid}
use Rattle.two_way.specs.declared.bidding.Bidder.{Bidder}
use Rattle.two_way.specs.FloatHistories.{IsFresh, round_told_to, round_told}
use Rattle.two_way.proofs.Rounds.{leads, before-last}
use Rattle.two_way.proofs.Telling.{fresh-past, not-yet, report-fits}
use Rattle.two_way.proofs.Truths.{behind-alike, block-after}

-- while a member has not reported the round stays
pub steps-stay : (u : ℕ → List ℕ → ℤ) (h now : TwoWayHistory) (last : ℕ) → IsFresh u h → now ≡ round_told_to u last h → steps_of h ≤ steps_of now → last + 1 ≤ h.terms.bidders → last + 1 ≢ h.number
    → steps_of now ≡ steps_of h
steps-stay u h now last fresh is grown bidders other = by (compare-or (steps_of h) (steps_of now))
  where
    none : demand_in now.reports (last_round h) (last + 1) ≡ None
    none = ap (λ (k : TwoWayHistory). demand_in k.reports (last_round h) (last + 1)) is ∙ not-yet u h last (last + 1) fresh (omega arith)

    member : is_member (as_clock now) (last + 1) ≡ true
    member =
        let terms = ap (λ (k : TwoWayHistory). k.terms.bidders) is in
        let number = ap (λ (k : TwoWayHistory). k.number) is in
        is-member (as_clock now) (last + 1) (record { from_one = omega arith; to_last = omega (arith, terms, bidders); other = λ e. other (e ∙ number) })

    by : (steps_of h < steps_of now) ⊎ ((steps_of now < steps_of h) ⊎ (steps_of h ≡ steps_of now)) → steps_of now ≡ steps_of h
    by (inl more) =
        let full = (leads now (steps_of h) (before-last now (steps_of h) more)).full in
        absurd (let f : false ≡ true = sym (ap is_some none) ∙ reported (as_clock now) (last_round h) (last + 1) member full in cc)
    by (inr (inl less)) = omega (arith, less, grown)
    by (inr (inr same)) = sym same

-- so what it says again is its true report
pub says-true : (u : ℕ → List ℕ → ℤ) (h now : TwoWayHistory) (last : ℕ) → IsFresh u h → now ≡ round_told_to u last h → steps_of h ≤ steps_of now → last + 1 ≤ h.terms.bidders → last + 1 ≢ h.number
    → demand_in h.reports (steps_of h) (last + 1) ≡ Some (demand h.terms.goods (u (last + 1)) (prices_of h))
    → (again_by now (last + 1) ≡ true_report h.terms u (last_round h) (prices_of h) (last + 1)) × (is_some (demand_in now.reports (steps_of now) (last + 1)) ≡ true)
says-true u h now last fresh is grown bidders other said =
    let j = last + 1 in
    let same = steps-stay u h now last fresh is grown bidders other in
    let round : steps_of now + 1 ≡ last_round h = ap (λ n. n + 1) same in
    let more = round_reports h.terms u (last_round h) (prices_of h) (members last h.number) in
    let early : demand_in (h.reports ++ more) (steps_of h) j ≡ demand_in h.reports (steps_of h) j =
    behind-alike h.reports more (steps_of h) (block-after h.terms h.number h.start u (steps_of h) (last_round h) (prices_of h) (members last h.number) (omega arith)) (steps_of h) j (omega arith) in
    let found : demand_in now.reports (steps_of now) j ≡ Some (demand h.terms.goods (u j) (prices_of h)) =
    ap (λ n. demand_in now.reports n j) same ∙ ap (λ (k : TwoWayHistory). demand_in k.reports (steps_of h) j) is ∙ early ∙ said in
    ((λ i. record { bidder = j; round = round i; demand = unwrap_or (found i) [] }), ap is_some found)

-- what was told in the round before is what was demanded at its prices
pub said-before : (u : ℕ → List ℕ → ℤ) (h now : TwoWayHistory) → IsFresh u h → now ≡ round_told u h → steps_of now ≡ steps_of h + 1 → (j : ℕ) → Among j (members_in h)
    → demand_in now.reports (steps_of now) j ≡ Some (demand h.terms.goods (u j) (prices_of h))
said-before u h now fresh is more j among =
    let t = last_round h in
    let p = prices_of h in
    ap (λ n. demand_in now.reports n j) more
    ∙ ap (λ (k : TwoWayHistory). demand_in k.reports t j) is
    ∙ ap (option_map (λ (r : Report). r.demand))
    (find-after (is_named t j) h.reports (round_reports h.terms u t p (members_in h)) (absent-beyond (steps_of h) t j h.reports (omega arith) (fresh-past u h fresh)) ∙ find-told h.terms u t p (members_in h) j among)

-- each bidder but one is a member
among-range : (number a n b : ℕ) → a ≤ b → b < a + n → b ≢ number → Among b (without number (range_with_len a n))
among-range number a zero b above below other = absurd (omega arith)
among-range number a (suc n) b above below other = by (cases_eq a number) (compare-or a b) (λ less. among-range number (a + 1) n b (omega (arith, less)) (omega (arith, below)) other)
  where
    rest : List ℕ
    rest = without number (range_with_len (a + 1) n)

    by : (a ≡ number) ⊎ (a ≢ number) → (a < b) ⊎ ((b < a) ⊎ (a ≡ b)) → (a < b → Among b rest) → Among b (cond (not (nat_eq a number)) (a ∷ rest) rest)
    by (inl same) (inl less) later =
        let e : nat_eq a number ≡ true = grind (arith, nat_tests) in
        let G : Bool → Type 0 = λ v. Among b (cond (not v) (a ∷ rest) rest) in
        subst G (sym e) (later less)
    by (inl same) (inr (inl more)) later = absurd (omega (arith, more, above))
    by (inl same) (inr (inr here)) later = absurd (other (sym here ∙ same))
    by (inr apart) (inl less) later =
        let e : nat_eq a number ≡ false = grind (arith, nat_tests) in
        let G : Bool → Type 0 = λ v. Among b (cond (not v) (a ∷ rest) rest) in
        subst G (sym e) (inr (later less))
    by (inr apart) (inr (inl more)) later = absurd (omega (arith, more, above))
    by (inr apart) (inr (inr here)) later =
        let e : nat_eq a number ≡ false = grind (arith, nat_tests) in
        let G : Bool → Type 0 = λ v. Among b (cond (not v) (a ∷ rest) rest) in
        subst G (sym e) (inl (sym here))

pub among-members : (bidders number place : ℕ) → place < bidders → place + 1 ≢ number → Among (place + 1) (members bidders number)
among-members bidders number place below other = among-range number 1 bidders (place + 1) (omega arith) (omega arith) other

-- bidders that followed the prices of a round that led on have said what they demand
pub have-said : (u : ℕ → List ℕ → ℤ) (terms : Terms) (h now : TwoWayHistory) (before after : List ℕ) (bidders : List Bidder) → h.terms ≡ terms → IsFresh u h → now ≡ round_told u h → steps_of now ≡ steps_of h + 1
    → before ≡ prices_of h → after ≡ prices_of now → HaveFollowed terms u before after bidders → HaveSaid u now bidders
have-said u terms h now before after bidders same fresh is more was here followed place inside other stays =
    let place-in : place < terms.bidders = (let c = followed.are.count in omega (arith, c, inside)) in
    let number = ap (λ (k : TwoWayHistory). k.number) is in
    let terms-are : now.terms ≡ terms = ap (λ (k : TwoWayHistory). k.terms) is ∙ same in
    let bidders-are = ap (λ (t : Terms). t.bidders) same in
    let said = said-before u h now fresh is more (place + 1) (among-members h.terms.bidders h.number place (omega (arith, place-in, bidders-are)) (λ e. other (e ∙ sym number))) in
    let stay = followed.stay place place-in stays in
    said ∙ ap Some
    ((λ i. demand (same i).goods (u (place + 1)) (sym was i))
    ∙ sym stay
    ∙ (λ i. demand (sym terms-are i).goods (u (place + 1)) (here i)))

-- the bidder at a place that is there
pub bidder-here : (terms : Terms) (u : ℕ → List ℕ → ℤ) (prices : List ℕ) (bidders : List Bidder) (b : Bidder) (place : ℕ) → AreBidders terms u prices bidders → place < terms.bidders → b ≡ get_or bidders place b
    → IsBidder terms.goods (u (place + 1)) prices b
bidder-here terms u prices bidders b place are inside is =
    let B : Bidder → Type 0 = IsBidder terms.goods (u (place + 1)) prices in
    subst B (get-same bidders place _ b (let c = are.count in omega (arith, c, inside)) ∙ sym is) (are.each place inside)

pub said-here : (u : ℕ → List ℕ → ℤ) (h : TwoWayHistory) (bidders : List Bidder) (b : Bidder) (place : ℕ) → HaveSaid u h bidders → place < length bidders → place + 1 ≢ h.number → b ≡ get_or bidders place b → b.stays ≡ true
    → demand_in h.reports (steps_of h) (place + 1) ≡ Some (demand h.terms.goods (u (place + 1)) (prices_of h))
said-here u h bidders b place said inside other is stays =
    said place inside other (ap (λ (x : Bidder). x.stays) (get-same bidders place _ b inside ∙ sym is) ∙ stays)

-- what it demands by its surpluses is its true report
pub report-now : (terms : Terms) (h : TwoWayHistory) (u : ℕ → List ℕ → ℤ) (place round : ℕ) (b : Bidder) (d : List (List ℕ)) → h.terms ≡ terms → IsBidder terms.goods (u (place + 1)) (prices_of h) b → round ≡ last_round h
    → d ≡ demand b.follower.supply (u (place + 1)) (prices_of h) → record { bidder = place + 1; round = round; demand = d } ≡ true_report h.terms u (last_round h) (prices_of h) (place + 1)
report-now terms h u place round b d same is r e =
    let f : d ≡ demand h.terms.goods (u (place + 1)) (prices_of h) = e ∙ ap (λ g. demand g (u (place + 1)) (prices_of h)) (is.over ∙ ap (λ (t : Terms). t.goods) (sym same)) in
    λ i. record { bidder = place + 1; round = r i; demand = f i }

pub fits-now : (terms : Terms) (h now : TwoWayHistory) (u : ℕ → List ℕ → ℤ) (place last : ℕ) (b : Bidder) (d : List (List ℕ)) → h.terms ≡ terms → now ≡ round_told_to u last h → IsBidder terms.goods (u (place + 1)) (prices_of h) b
    → d ≡ demand b.follower.supply (u (place + 1)) (prices_of h) → IsDemand now.terms.goods d
fits-now terms h now u place last b d same is at e =
    report-fits terms h now (u (place + 1)) (prices_of h) d u last same is (e ∙ ap (λ g. demand g (u (place + 1)) (prices_of h)) at.over)
