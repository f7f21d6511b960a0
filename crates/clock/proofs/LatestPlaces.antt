-- The latest place of a bidder is that of its latest report, and reports are repeated where their quantities are.
use Rattle.std.proofs.Common.{◌≡◌, ℕ, nat_eq, List, [], ◌∷◌, take, drop, length, Option, Some, None, refl, sym, ◌∙◌, ap, subst}
use Rattle.std.specs.Prelude.{find, reverse, option_map, slice_get, IsSomeAnd}
use mathlib.Core.List.{reverse_aux}
use Rattle.std.specs.List.{concat}
use Rattle.demand_set.specs.Reading.{groups}
use Rattle.demand_set.specs.declared.reports.Report.{Report}
use Rattle.demand_set.proofs.Groups.{length-groups}
use Rattle.demand_set.proofs.PackedForm.{concat-groups}
use Rattle.clock.specs.declared.kept_quantities.Place.{Place}
use Rattle.clock.specs.Past.{AllFit, Fits, history_of, quantities_of, report_at}
use Rattle.clock.specs.Latest.{IsRepeat, latest_of}
use Rattle.clock.proofs.Stored.{fit-take, found-fit, groups-quantities, history-find, history-take, length-quantities}

history-onto : (goods : ℕ) (q : List ℕ) (places others : List Place)
    → history_of goods q (reverse_aux places others) ≡ reverse_aux (history_of goods q places) (history_of goods q others)
history-onto goods q [] others = refl
history-onto goods q (p ∷ places) others = history-onto goods q places (p ∷ others)

history-reverse : (goods : ℕ) (q : List ℕ) (places : List Place) → history_of goods q (reverse places) ≡ reverse (history_of goods q places)
history-reverse goods q places = history-onto goods q places []

fit-onto : (goods : ℕ) (q : List ℕ) (places others : List Place) → AllFit goods q places → AllFit goods q others
    → AllFit goods q (reverse_aux places others)
fit-onto goods q [] others fit rest = rest
fit-onto goods q (p ∷ places) others fit rest = fit-onto goods q places (p ∷ others) fit.1 (fit.0, rest)

-- the latest place among the first so many
abbrev pub latest_place : ℕ → List Place → ℕ → Option Place
latest_place number places bidder = find (λ (p : Place). nat_eq p.bidder bidder) (reverse (take number places))

pub latest-fits : (goods number bidder : ℕ) (q : List ℕ) (places : List Place) (before : Place) → latest_place number places bidder ≡ Some before
    → AllFit goods q places → Fits goods q before
latest-fits goods number bidder q places before found fit =
    found-fit goods bidder q (reverse (take number places)) before found (fit-onto goods q (take number places) [] (fit-take goods number q places fit) tt)

pub latest-is : (goods number bidder : ℕ) (q : List ℕ) (places : List Place)
    → latest_of (take number (history_of goods q places)) bidder ≡ option_map (report_at goods q) (latest_place number places bidder)
latest-is goods number bidder q places =
    ap (λ rs. find (λ (r : Report). nat_eq r.bidder bidder) (reverse rs)) (history-take goods number q places)
    ∙ ap (find (λ (r : Report). nat_eq r.bidder bidder)) (sym (history-reverse goods q (take number places)))
    ∙ history-find goods bidder q (reverse (take number places))

-- what is asked of the report and of the latest before it
Says : Report → Option Report → Type 0
Says r before = IsSomeAnd before (λ (b : Report). b.demand ≡ r.demand)

Asked : List Report → ℕ → Option Report → Type 0
Asked reports number o = IsSomeAnd o (λ (r : Report). Says r (latest_of (take number reports) r.bidder))

pub record Repeats (reports : List Report) (number : ℕ) (r : Report) (before : Option Report) : Type 0 where
  pub says : IsRepeat reports number → IsSomeAnd before (λ (b : Report). b.demand ≡ r.demand)
  pub from : IsSomeAnd before (λ (b : Report). b.demand ≡ r.demand) → IsRepeat reports number

repeats : (reports : List Report) (number : ℕ) (r : Report) (before : Option Report) → slice_get reports number ≡ Some r
    → latest_of (take number reports) r.bidder ≡ before → Repeats reports number r before
unfolding Says Asked
repeats reports number r before here latest =
    let S : Option Report → Type 0 = Says r in
    let A : Option Report → Type 0 = Asked reports number in
    record { says = λ h. subst S latest (subst A here h); from = λ h. subst A (sym here) (subst S (sym latest) h) }

-- the demands of two places
pub same-demands : (goods : ℕ) (q : List ℕ) (first second : Place) → Fits goods q first → Fits goods q second
    → (report_at goods q first).demand ≡ (report_at goods q second).demand
    → (first.count ≡ second.count) × (quantities_of goods q first ≡ quantities_of goods q second)
same-demands goods q first second fits fit same =
    let a = groups-quantities goods q first fits in
    let b = groups-quantities goods q second fit in
    let both : groups first.count goods (quantities_of goods q first) ≡ groups second.count goods (quantities_of goods q second) = sym a ∙ same ∙ b in (
      sym (length-groups first.count goods (drop first.start q)) ∙ ap length same ∙ length-groups second.count goods (drop second.start q),
      sym (concat-groups first.count goods (quantities_of goods q first) (length-quantities goods q first fits))
          ∙ ap concat both
          ∙ concat-groups second.count goods (quantities_of goods q second) (length-quantities goods q second fit),
    )

pub demands-same : (goods : ℕ) (q : List ℕ) (first second : Place) → Fits goods q first → Fits goods q second → first.count ≡ second.count
    → quantities_of goods q first ≡ quantities_of goods q second → (report_at goods q first).demand ≡ (report_at goods q second).demand
demands-same goods q first second fits fit count same =
    groups-quantities goods q first fits ∙ (λ i. groups (count i) goods (same i)) ∙ sym (groups-quantities goods q second fit)

-- the first report of a bidder repeats none
pub first-repeats : (goods number : ℕ) (q : List ℕ) (places : List Place) (p : Place)
    → slice_get (history_of goods q places) number ≡ Some (report_at goods q p) → latest_place number places p.bidder ≡ None
    → IsRepeat (history_of goods q places) number → ⊥
first-repeats goods number q places p here none h =
    (repeats (history_of goods q places) number (report_at goods q p) None here
    (latest-is goods number p.bidder q places ∙ ap (option_map (report_at goods q)) none)).says h

-- and a later one does where its place has the same quantities as that of the one before
pub later-repeats : (goods number : ℕ) (q : List ℕ) (places : List Place) (p before : Place)
    → slice_get (history_of goods q places) number ≡ Some (report_at goods q p) → latest_place number places p.bidder ≡ Some before
    → Repeats (history_of goods q places) number (report_at goods q p) (Some (report_at goods q before))
later-repeats goods number q places p before here found =
    repeats (history_of goods q places) number (report_at goods q p) (Some (report_at goods q before)) here
    (latest-is goods number p.bidder q places ∙ ap (option_map (report_at goods q)) found)
