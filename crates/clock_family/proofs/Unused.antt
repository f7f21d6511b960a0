-- Desks at which nothing was made: the disks of their books stand as these say.
use Rattle.std.proofs.Common.{◌≡◌, inl, inr, ◌<◌, ◌≤◌, ℕ, zero, suc, ◌+◌, ◌&&◌, List, [], ◌∷◌, ◌++◌, length, map, get_or, refl, sym, ◌∙◌, ap, subst, arith, length-append, append-nil, append_assoc}
use Rattle.house_io.specs.Disks.{DiskShown, told_moments}
use Rattle.std.specs.Prelude.{IsTrue, Option, Some, None, IfSome}
use Rattle.std.specs.List.{AllByRecursion}
use Rattle.std.proofs.lemmas.Bool.{cases_lt, le-leb, lt-ltb}
use Rattle.demand_set.specs.declared.reports.Report.{Report}
use Rattle.clock.specs.Reports.{ClockHistory}
use Rattle.house_io.specs.Moments.{Leaves}
use Rattle.recovery.specs.Journaled.{Owner, owner_of}
use Rattle.clock_book.specs.Opening.{history_of}
use Rattle.clock_book.specs.Opened.{Opens}
use Rattle.clock_book.specs.DeskHistories.{reports_in, marks_in, IsInDoubt}
use Rattle.clock_book.specs.Past.{owner_in, IsEither, KeepsPast}
use Rattle.clock_book.specs.Books.{BookOf, BookState, IsKept}
use Rattle.clock_book.specs.declared.entries.Entry.{Entry}
use Rattle.clock_book.specs.declared.entries.Entry.TheVariants.{Offered, Mark}
use Rattle.clock_book.specs.declared.origins.Origin.{Origin}
use Rattle.clock_book.proofs.Histories.{reports-opened, marks-opened, marks-append}
use Rattle.turn_desk.specs.Histories.{one_if, between, total, times_at}
use Rattle.turn_desk.specs.Passes.{Known, Closes}
use Rattle.clock_family.specs.Opening.{LaidOf, IsGivenBack, AreGivenBack, WasOpened}
use Rattle.clock_family.specs.Turns.{clock_in}

no-place : (a b : ℕ) → between a b a ≡ 0 → b ≤ a
no-place a b none = elim (cases_lt a b) [
  | inl less ↦
      let here : between a b a ≡ 1 = (λ i. one_if (le-leb a a (omega arith) i && lt-ltb a b less i)) in
      absurd (omega (arith, here, none))
  | inr le ↦ le
]

empty-tail : {A : Type 0} (xs more : List A) → length (xs ++ more) ≤ length xs → more ≡ []
empty-tail xs [] le = refl
empty-tail xs (x ∷ more) le = absurd (omega (arith, length-append xs (x ∷ more), le))

module _ {E O : Type 0} where
  nothing-made : (k : ℕ) (ps : List (Known E O)) → AllByRecursion (λ (p : Known E O). p.own ≡ []) ps → total (λ (p : Known E O). times_at k p.own) ps ≡ 0
  nothing-made k [] all = refl
  nothing-made k (p ∷ ps) all = (λ i. times_at k (all.0 i) + nothing-made k ps all.1 i)

  -- no place came to the history where no pass has made anything
  pub same-history : {B : Type 0} (history : B → List E) (origin : B → O) (first : B) (ps : List (Known E O)) (book : B) → AllByRecursion (λ (p : Known E O). p.own ≡ []) ps → Closes history origin first ps book → history book ≡ history first
  same-history history origin first ps book all closes =
      let at : ℕ = length (history first) in
      let is = closes.goes_on.1 in
      let le : length (history book) ≤ at = no-place at (length (history book)) (sym (closes.places at) ∙ nothing-made at ps all) in
      is ∙ ap (λ z. history first ++ z) (empty-tail (history first) closes.goes_on.0 (omega (arith, ap length is, le))) ∙ append-nil (history first)

module _ {D : Type 0} (shown : D → DiskShown) where
  pub given-back : (b : BookOf D) (origin : Origin) (history : List Entry) (disk : D) → IsKept shown b → b.origin ≡ origin → b.state.history ≡ history → disk ≡ b.disk
      → IsGivenBack shown origin history disk
  given-back b origin history disk kept same alike is =
      let clock : b.state.clock ≡ clock_in (owner_in b.origin) b.state.history = (λ i. record { terms = kept.terms i; number = kept.number i; reports = sym kept.reports i }) in
      let Stands : List Report → Type 0 = λ rs. Leaves (IsEither (owner_in b.origin) rs b.state.pending) (told_moments (shown b.disk)).now in
      let Past : ClockHistory → Type 0 = λ c. KeepsPast b.origin c b.state.history (told_moments (shown b.disk)) in
      let here : IsGivenBack shown b.origin b.state.history b.disk = record {
        pending = b.state.pending;
        told = kept.first;
        claimed = kept.claimed;
        doubt = kept.doubt;
        stands = λ t. subst Stands (sym kept.reports) (kept.stands t);
        past = λ t. subst Past clock (kept.past t);
      } in
      subst (IsGivenBack shown origin history) (sym is) (subst (λ (o : Origin). IsGivenBack shown o history b.disk) same (subst (λ (h : List Entry). IsGivenBack shown b.origin h b.disk) alike here))

  pub given-count : (laid : List (LaidOf D)) (front : List D) → AreGivenBack shown laid front → length front ≡ length laid
  given-count [] [] are = refl
  given-count [] (x ∷ xs) are = absurd are
  given-count (l ∷ ls) [] are = absurd are
  given-count (l ∷ ls) (x ∷ xs) are = ap suc (given-count ls xs are.1)

  pub given-at : (laid : List (LaidOf D)) (front : List D) (k : ℕ) (l : LaidOf D) (x : D) → AreGivenBack shown laid front → k < length laid
      → IsGivenBack shown (get_or laid k l).desk.book.origin (get_or laid k l).desk.book.state.history (get_or front k x)
  given-at [] front k l x are below = absurd (omega (arith, below))
  given-at (m ∷ ms) [] k l x are below = absurd are
  given-at (m ∷ ms) (y ∷ ys) zero l x are below = are.0
  given-at (m ∷ ms) (y ∷ ys) (suc k) l x are below = given-at ms ys k l x are.1 (omega (arith, below))

empty-front : {A : Type 0} (xs ys : List A) → length xs ≡ 0 → xs ++ ys ≡ ys
empty-front [] ys none = refl
empty-front (x ∷ xs) ys none = absurd (omega (arith, none))

module _ {D : Type 0} (shown : D → DiskShown) (all : List (LaidOf D)) (rest : List D) where
  -- the disks of the desks that are no longer left, before the rest
  pub record AreTaken (left : List (LaidOf D)) (disks : List D) : Type 0 where
    pub gone : List (LaidOf D)
    pub front : List D
    pub split : all ≡ left ++ gone
    pub back : AreGivenBack shown gone front
    pub before : disks ≡ front ++ rest

  pub none-taken : (left : List (LaidOf D)) (disks : List D) → left ≡ all → disks ≡ rest → AreTaken left disks
  none-taken left disks whole same = record {
    gone = [];
    front = [];
    split = sym whole ∙ sym (append-nil left);
    back = tt;
    before = same;
  }

  pub taken-more : (before left : List (LaidOf D)) (l : LaidOf D) (disks new : List D) (x : D) → AreTaken before disks → before ≡ left ++ l ∷ [] → IsGivenBack shown l.desk.book.origin l.desk.book.state.history x
      → new ≡ x ∷ disks → AreTaken left new
  taken-more before left l disks new x taken is back e = record {
    gone = l ∷ taken.gone;
    front = x ∷ taken.front;
    split = taken.split ∙ ap (λ z. z ++ taken.gone) is ∙ append_assoc left (l ∷ []) taken.gone;
    back = (back, taken.back);
    before = e ∙ ap (λ z. x ∷ z) taken.before;
  }

  pub all-taken : (left : List (LaidOf D)) (disks new : List D) → AreTaken left disks → length left ≡ 0 → new ≡ disks → (front : List D) × AreGivenBack shown all front × (new ≡ front ++ rest)
  all-taken left disks new taken none e =
      let Back : List (LaidOf D) → Type 0 = λ ls. AreGivenBack shown ls taken.front in (
        taken.front,
        subst Back (sym (taken.split ∙ empty-front left taken.gone none)) taken.back,
        e ∙ taken.before,
      )

-- where each report is noted as offered, none is in doubt
none-marked : (rs : List Report) (r : Report) → IsInDoubt (map Offered rs) r → ⊥
none-marked rs r doubt =
    let none = sym (ap marks_in doubt.is) ∙ marks-opened rs in
    let some = marks-append doubt.before (Mark r ∷ doubt.behind) in
    omega (arith, none, some)

none-in-doubt : (rs : List Report) (pending : Option Report) → IfSome pending (IsInDoubt (map Offered rs)) → pending ≡ None
none-in-doubt rs None doubt = refl
none-in-doubt rs (Some r) doubt = absurd (none-marked rs r doubt)

module _ {D : Type 0} (shown : D → DiskShown) where
  pub was-opened : (owner : Owner) (old : D) (b : BookOf D) (new : D) → Opens shown owner old b → IsGivenBack shown b.origin b.state.history new → WasOpened shown owner old new
  was-opened owner old b new opens back =
      let of = opens.origin in
      let reports : reports_in b.state.history ≡ b.state.clock.reports = ap (λ (s : BookState). reports_in s.history) opens.state ∙ reports-opened b.state.clock.reports in
      let same : owner_in b.origin ≡ owner = (λ j. owner_of (of.terms_are j) (of.clock_is j) (of.digest_is j)) in
      let clock : clock_in (owner_in b.origin) b.state.history ≡ b.state.clock = (λ j. history_of (same j) (reports j)) ∙ sym opens.history.is in
      let Doubt : List Entry → Type 0 = λ h. IfSome back.pending (IsInDoubt h) in
      let history : b.state.history ≡ map Offered b.state.clock.reports = ap (λ (s : BookState). s.history) opens.state in
      let none : back.pending ≡ None = none-in-doubt b.state.clock.reports back.pending (subst Doubt history back.doubt) in
      let Stands : List Report → Type 0 = λ rs. Leaves (IsEither (owner_in b.origin) rs None) (told_moments (shown new)).now in
      let Either : Option Report → Type 0 = λ o. Leaves (IsEither (owner_in b.origin) (reports_in b.state.history) o) (told_moments (shown new)).now in
      let Past : ClockHistory → Type 0 = λ c. KeepsPast b.origin c b.state.history (told_moments (shown new)) in
      record {
        first = b;
        opens = opens;
        told = λ t. subst IsTrue opens.told_is (back.told t);
        claimed = back.claimed;
        stands = λ t. subst Stands reports (subst Either none (back.stands t));
        past = λ t. subst Past clock (back.past t);
      }
