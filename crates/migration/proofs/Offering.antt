-- Reports that are offered to one book, and to the books of all clocks.
use Rattle.std.proofs.Common.{◌≡◌, ◌⊎◌, inl, inr, ⊎_elim, ◌<◌, ◌≤◌, ℕ, ◌+◌, IsTrue, List, [], ◌∷◌, ◌++◌, length, get_or, set, slice_get, Option, Some, Ok, Err, refl, sym, ◌∙◌, ap, subst, arith}
use Rattle.house_io.specs.Disks.{DiskShown, is_told, told_moments, IsLater}
use Rattle.std.proofs.lemmas.Bool.{cases_lt, cases_eq}
use Rattle.std.proofs.lemmas.List.{get_or-set_same, get_or-set_other, length-set, length-take-le, take_all}
use Rattle.std.proofs.lemmas.Option.{slice_get_within}
use Rattle.demand_set.specs.declared.reports.Report.{Report}
use Rattle.house_io.specs.Moments.{Moments, Leaves, AtEach}
use Rattle.house_io.proofs.Moments.{at_weaker, at_both}
use Rattle.clock.specs.Reports.{ClockHistory}
use Rattle.clock.specs.declared.judging.Offered.{Offered}
use Rattle.clock.specs.declared.judging.Offered.TheVariants as answers
use Rattle.recovery.specs.Journaled.{Owner, StandsForReports}
use Rattle.clock_book.specs.Past.{owner_in, IsEither}
use Rattle.clock_book.specs.Books.{BookOf, BookState}
use Rattle.clock_book.specs.Offers.{IsOffer, Answers}
use Rattle.clock_book.specs.declared.origins.Origin.{Origin}
use Rattle.migration.specs.declared.faults.MoveFault.{MoveFault}
use Rattle.migration.specs.declared.faults.Stopped.{Stopped}
use Rattle.migration.specs.declared.faults.Stopped.TheVariants as stopped
use Rattle.migration.specs.Moving.{AreAlike, StandsForFront}
use Rattle.migration.specs.Moves.{TellsFaultOf}
use Rattle.migration.specs.Targets.{HasFirst, GoesOn, StopsFor, fault_at, AreReady, IsStop, IsWhole, AreOffered}
use Rattle.migration.proofs.Lists.{take-next, any-default}
use Rattle.migration.proofs.Following.{answered, front-leaves}

module _ {D : Type 0} (shown : D → DiskShown) (source : ClockHistory) where
  -- a book to which nothing was offered
  pub goes-nowhere : (b : BookOf D) → GoesOn shown source b b
  goes-nowhere b = record { origin = refl; later = record { told = λ t. t; claim = refl }; leaves = λ t. inl refl }

  module _ (n : ℕ) (old new : BookOf D) (r : Report) (answer : Offered) (has : HasFirst source n old) (at : slice_get source.reports n ≡ Some r)
      (offer : IsOffer (owner_in old.origin) old.state r answer new.state (shown old.disk) (shown new.disk)) (origin : new.origin ≡ old.origin) where
    pub goes-next : IsLater (shown old.disk) (shown new.disk) → GoesOn shown source old new
    goes-next later = record {
      origin = origin;
      later = later;
      leaves = λ t. inr (front-leaves (owner_in old.origin) source.reports n old.state r has.reports has.settled at answer new.state (shown old.disk) (shown new.disk) offer t);
    }

    pub has-next : answer ≡ answers.Taken → HasFirst source (n + 1) new
    has-next is =
        let within = slice_get_within source.reports n r at in
        let A : Offered → Type 0 = λ a. Answers (owner_in old.origin) a old.state r new.state in
        let taken = subst A is (answered (owner_in old.origin) old.state r answer new.state (shown old.disk) (shown new.disk) has.settled offer) in
        let reports : new.state.clock.reports ≡ old.state.clock.reports ++ r ∷ [] = ap (λ (s : BookState). s.clock.reports) taken.1 in
        record {
          few = omega (arith, within);
          reports = reports ∙ ap (λ (l : List Report). l ++ r ∷ []) has.reports ∙ take-next source.reports n r at;
          settled = ap (λ (s : BookState). s.pending) taken.1;
          alike = subst (λ (o : Origin). AreAlike source.terms o.terms) (sym origin) has.alike;
          number = has.number ∙ sym (ap (λ (o : Origin). o.clock) origin);
        }

  -- a book that has all reports stands for them
  pub stands-whole : (n : ℕ) (old b : BookOf D) (ms : Moments) → HasFirst source n b → b.origin ≡ old.origin → length source.reports ≤ n → Leaves (IsEither (owner_in b.origin) b.state.clock.reports b.state.pending) ms.now
      → Leaves (StandsForReports (owner_in old.origin) source.reports) ms.now
  stands-whole n old b ms has origin all stands =
      let P : Option Report → Type 0 = λ o. Leaves (IsEither (owner_in b.origin) b.state.clock.reports o) ms.now in
      let Q : List Report → Type 0 = λ reports. Leaves (StandsForReports (owner_in b.origin) reports) ms.now in
      let R : Origin → Type 0 = λ o. Leaves (StandsForReports (owner_in o) source.reports) ms.now in
      subst R origin (subst Q (has.reports ∙ take_all n source.reports all) (subst P has.settled stands))

  -- one report more, after those that were offered before it
  pub goes-further : (old mid new : BookOf D) → length old.state.clock.reports ≤ length mid.state.clock.reports → GoesOn shown source old mid → GoesOn shown source mid new → GoesOn shown source old new
  goes-further old mid new longer one two =
      let few = length old.state.clock.reports in
      let more = length mid.state.clock.reports in
      let F : Owner → ℕ → List ℕ → Type 0 = λ o least file. StandsForFront o source.reports least file in
      let owner = owner_in old.origin in
      record {
        origin = two.origin ∙ one.origin;
        later = record { told = λ t. one.later.told (two.later.told t); claim = two.later.claim ∙ one.later.claim };
        leaves = λ t. ⊎_elim
            (λ still. ⊎_elim
            (λ stood. inl (still ∙ stood))
            (λ first. inr (let A : Moments → Type 0 = λ ms. AtEach (F owner few) (told_moments (shown old.disk)) ms in subst A (sym still) first))
            (one.leaves (two.later.told t)))
            (λ second.
            let A : Origin → Type 0 = λ o. AtEach (F (owner_in o) more) (told_moments (shown mid.disk)) (told_moments (shown new.disk)) in
            let here : A old.origin = subst A one.origin second in
            let weak : AtEach (F owner few) (told_moments (shown mid.disk)) (told_moments (shown new.disk)) = at_weaker (F owner more) (F owner few) (told_moments (shown mid.disk)) (told_moments (shown new.disk))
            (λ file stands. record { count = stands.count; no_fewer = (let f = stands.no_fewer in omega (arith, f, longer)); no_more = stands.no_more; stands = stands.stands }) here in
            ⊎_elim
            (λ stood. inr (let B : Moments → Type 0 = λ ms. AtEach (F owner few) ms (told_moments (shown new.disk)) in subst B stood weak))
            (λ first. inr (at_both (F owner few) (told_moments (shown old.disk)) (told_moments (shown mid.disk)) (told_moments (shown new.disk)) first weak))
            (one.leaves (two.later.told t)))
            (two.leaves t);
      }

-- What has become of a book to which so many reports of the source were offered.
pub record HasGone {D : Type 0} (shown : D → DiskShown) (source : ClockHistory) (count : ℕ) (old new : BookOf D) : Type 0 where
  pub has : HasFirst source count new
  pub goes : GoesOn shown source old new
  pub longer : length old.state.clock.reports ≤ length new.state.clock.reports
  pub steady : (shown new.disk).faults ≡ (shown old.disk).faults

module _ {D : Type 0} (shown : D → DiskShown) (source : ClockHistory) where
  pub one-gone : (n : ℕ) (old mid new : BookOf D) → HasGone shown source n old mid → GoesOn shown source mid new → HasFirst source (n + 1) new → (shown new.disk).faults ≡ (shown mid.disk).faults → HasGone shown source (n + 1) old new
  one-gone n old mid new gone goes has steady =
      let first = gone.has in
      let size = length-take-le n source.reports first.few in
      let more = length-take-le (n + 1) source.reports has.few in
      record {
        has = has;
        goes = goes-further shown source old mid new gone.longer gone.goes goes;
        longer = (let l = gone.longer in omega (arith, l, size, more, ap length first.reports, ap length has.reports));
        steady = steady ∙ gone.steady;
      }

module _ {D : Type 0} (shown : D → DiskShown) (clocks : List ClockHistory) (old : List (BookOf D)) where
  -- the reports of the first so many clocks were offered
  pub record ArePartly (new : List (BookOf D)) (n : ℕ) : Type 0 where
    pub count : length new ≡ length old
    pub each : (k : ℕ) (b : BookOf D) (c : ClockHistory) → k < length old → GoesOn shown (get_or clocks k c) (get_or old k b) (get_or new k b)
    pub steady : (k : ℕ) (b : BookOf D) → k < length old → (shown (get_or new k b).disk).faults ≡ (shown (get_or old k b).disk).faults
    pub whole : (k : ℕ) (b : BookOf D) (c : ClockHistory) → k < n → IsWhole shown clocks old new k b c
    pub later : (k : ℕ) (b : BookOf D) → n ≤ k → get_or new k b ≡ get_or old k b

  pub all-offered : (new : List (BookOf D)) (n : ℕ) → n ≡ length old → ArePartly new n → AreOffered shown clocks old new (Ok tt)
  all-offered new n whole are = record {
    count = are.count;
    each = are.each;
    counts = λ k b below. inl (are.steady k b below);
    whole = λ k b c below. are.whole k b c (omega (arith, whole, below));
    cause = tt;
  }

  -- the book to which reports are offered next
  pub ready-at : (new : List (BookOf D)) (n : ℕ) (c : ClockHistory) (mine : BookOf D) → AreReady clocks old → ArePartly new n → n < length old → mine ≡ get_or new n mine → ((d : ClockHistory) → get_or clocks n d ≡ c)
      → HasFirst c (length mine.state.clock.reports) mine
  ready-at new n c mine ready are within here source =
      let F : ClockHistory → BookOf D → Type 0 = λ z b. HasFirst z (length b.state.clock.reports) b in
      let at : mine ≡ get_or old n mine = here ∙ are.later n mine (omega arith) in
      subst (F c) (sym at) (subst (λ (z : ClockHistory). F z (get_or old n mine)) (source c) (ready.each n mine c within))

  module _ (new : List (BookOf D)) (n : ℕ) (c : ClockHistory) (mine now : BookOf D) (are : ArePartly new n) (within : n < length old) (here : mine ≡ get_or new n mine) (source : (d : ClockHistory) → get_or clocks n d ≡ c)
      (goes : GoesOn shown c mine now) where
    pub was : (b : BookOf D) → mine ≡ get_or old n b
    was b = here ∙ any-default new n mine b (let s = are.count in omega (arith, s, within)) ∙ are.later n b (omega arith)

    pub is-now : (b : BookOf D) → get_or (set new n now) n b ≡ now
    is-now b = get_or-set_same new n now b (let s = are.count in omega (arith, s, within))

    other : (k : ℕ) (b : BookOf D) → (k ≡ n → ⊥) → get_or (set new n now) k b ≡ get_or new k b
    other k b away = get_or-set_other new n k now b away

    each-now : (k : ℕ) (b : BookOf D) (d : ClockHistory) → k < length old → GoesOn shown (get_or clocks k d) (get_or old k b) (get_or (set new n now) k b)
    each-now k b d below = elim (cases_eq k n) [
      | inl same ↦
          let G : ℕ → Type 0 = λ i. GoesOn shown (get_or clocks i d) (get_or old i b) (get_or (set new n now) i b) in
          let at : G n = subst (λ (z : ClockHistory). GoesOn shown z (get_or old n b) (get_or (set new n now) n b)) (sym (source d))
          (subst (λ (z : BookOf D). GoesOn shown c z (get_or (set new n now) n b)) (was b) (subst (λ (z : BookOf D). GoesOn shown c mine z) (sym (is-now b)) goes)) in
          subst G (sym same) at
      | inr away ↦ subst (λ (z : BookOf D). GoesOn shown (get_or clocks k d) (get_or old k b) z) (sym (other k b away)) (are.each k b d below)
    ]

    steady-else : (k : ℕ) (b : BookOf D) → (k ≡ n → ⊥) → k < length old → (shown (get_or (set new n now) k b).disk).faults ≡ (shown (get_or old k b).disk).faults
    steady-else k b away below = ap (λ (z : BookOf D). (shown z.disk).faults) (other k b away) ∙ are.steady k b below

    faults-now : (b : BookOf D) → (shown (get_or (set new n now) n b).disk).faults ≡ (shown now.disk).faults
    faults-now b = ap (λ (z : BookOf D). (shown z.disk).faults) (is-now b)

    faults-was : (b : BookOf D) → (shown mine.disk).faults ≡ (shown (get_or old n b).disk).faults
    faults-was b = ap (λ (z : BookOf D). (shown z.disk).faults) (was b)

    -- the reports of one clock more were offered
    pub more-offered : (shown now.disk).faults ≡ (shown mine.disk).faults → (IsTrue (is_told (shown now.disk)) → Leaves (StandsForReports (owner_in mine.origin) c.reports) (told_moments (shown now.disk)).now) → ArePartly (set new n now) (n + 1)
    more-offered steady whole = record {
      count = length-set new n now ∙ are.count;
      each = each-now;
      steady = λ k b below. elim (cases_eq k n) [
        | inl same ↦
            let F : ℕ → Type 0 = λ i. (shown (get_or (set new n now) i b).disk).faults ≡ (shown (get_or old i b).disk).faults in
            subst F (sym same) (faults-now b ∙ steady ∙ faults-was b)
        | inr away ↦ steady-else k b away below
      ];
      whole = λ k b d below. elim (cases_eq k n) [
        | inl same ↦
            let W : ℕ → Type 0 = λ i. IsWhole shown clocks old (set new n now) i b d in
            let V : BookOf D → BookOf D → ClockHistory → Type 0 = λ x y z. IsTrue (is_told (shown y.disk)) → Leaves (StandsForReports (owner_in x.origin) z.reports) (told_moments (shown y.disk)).now in
            let at : W n = subst (V (get_or old n b) (get_or (set new n now) n b)) (sym (source d)) (subst (λ (y : BookOf D). V (get_or old n b) y c) (sym (is-now b)) (subst (λ (x : BookOf D). V x now c) (was b) whole)) in
            subst W (sym same) at
        | inr away ↦
            let V : BookOf D → Type 0 = λ y. IsTrue (is_told (shown y.disk)) → Leaves (StandsForReports (owner_in (get_or old k b).origin) (get_or clocks k d).reports) (told_moments (shown y.disk)).now in
            subst V (sym (other k b away)) (are.whole k b d (by-less k away below))
      ];
      later = λ k b from. other k b (λ same. omega (arith, same, from)) ∙ are.later k b (omega (arith, from));
    }
      where
        by-less : (k : ℕ) → (k ≡ n → ⊥) → k < n + 1 → k < n
        by-less k away below = elim (cases_lt k n) [ inl less ↦ less | inr beyond ↦ absurd (away (omega (arith, beyond, below))) ]

    cause-at : (why : Stopped) → StopsFor (shown mine.disk).faults (shown now.disk).faults (owner_in mine.origin) c.reports why → (b : BookOf D) (d : ClockHistory)
        → StopsFor (shown (get_or old n b).disk).faults (shown (get_or (set new n now) n b).disk).faults (owner_in (get_or old n b).origin) (get_or clocks n d).reports why
    cause-at why stops b d =
        let S : BookOf D → BookOf D → ClockHistory → Type 0 = λ x y z. StopsFor (shown x.disk).faults (shown y.disk).faults (owner_in x.origin) z.reports why in
        subst (S (get_or old n b) (get_or (set new n now) n b)) (sym (source d)) (subst (λ (y : BookOf D). S (get_or old n b) y c) (sym (is-now b)) (subst (λ (x : BookOf D). S x now c) (was b) stops))

    counts-at : (why : Stopped) → StopsFor (shown mine.disk).faults (shown now.disk).faults (owner_in mine.origin) c.reports why → (b : BookOf D)
        → ((shown (get_or (set new n now) n b).disk).faults ≡ (shown (get_or old n b).disk).faults) ⊎ (TellsFaultOf n (Err (fault_at n why)) × ((shown (get_or old n b).disk).faults ≤ (shown (get_or (set new n now) n b).disk).faults))
    counts-at (stopped.Full needed) stops b = inl (faults-now b ∙ stops.0 ∙ faults-was b)
    counts-at stopped.DiskFault stops b = inr (refl, (let now_is = faults-now b in let was_is = faults-was b in omega (arith, stops.0, now_is, was_is)))
    counts-at stopped.NoMemory stops b = inl (faults-now b ∙ stops ∙ faults-was b)

    -- the reports of the clocks before were all offered
    whole-before : (k : ℕ) (b : BookOf D) (d : ClockHistory) → k < n → IsWhole shown clocks old (set new n now) k b d
    whole-before k b d less =
        let V : BookOf D → Type 0 = λ y. IsTrue (is_told (shown y.disk)) → Leaves (StandsForReports (owner_in (get_or old k b).origin) (get_or clocks k d).reports) (told_moments (shown y.disk)).now in
        subst V (sym (other k b (λ same. omega (arith, same, less)))) (are.whole k b d less)

    stop-at : (why : Stopped) → StopsFor (shown mine.disk).faults (shown now.disk).faults (owner_in mine.origin) c.reports why → IsStop shown clocks old (set new n now) (fault_at n why)
    stop-at (stopped.Full needed) stops = record { within = within; before = whole-before; cause = cause-at (stopped.Full needed) stops }
    stop-at stopped.DiskFault stops = record { within = within; before = whole-before; cause = cause-at stopped.DiskFault stops }
    stop-at stopped.NoMemory stops = tt

    -- the reports of this clock were not all offered
    pub not-offered : (why : Stopped) (answer : MoveFault) → answer ≡ fault_at n why → StopsFor (shown mine.disk).faults (shown now.disk).faults (owner_in mine.origin) c.reports why → AreOffered shown clocks old (set new n now) (Err answer)
    not-offered why answer is stops =
        let O : MoveFault → Type 0 = λ a. AreOffered shown clocks old (set new n now) (Err a) in
        subst O (sym is) (record {
          count = length-set new n now ∙ are.count;
          each = each-now;
          counts = λ k b below. elim (cases_eq k n) [
            | inl same ↦
                let C : ℕ → Type 0 = λ i. ((shown (get_or (set new n now) i b).disk).faults ≡ (shown (get_or old i b).disk).faults) ⊎ (TellsFaultOf i (Err (fault_at n why)) × ((shown (get_or old i b).disk).faults ≤ (shown (get_or (set new n now) i b).disk).faults)) in
                subst C (sym same) (counts-at why stops b)
            | inr away ↦ inl (steady-else k b away below)
          ];
          whole = tt;
          cause = stop-at why stops;
        })
