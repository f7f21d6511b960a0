-- Reports that are a front of others.
use Rattle.std.proofs.Common.{◌≡◌, inl, inr, ◌<◌, ℕ, ◌+◌, ◌-◌, List, length, take, get_or, slice_get, Some, sym, ◌∙◌, subst, arith}
use Rattle.std.proofs.lemmas.Bool.{cases_lt}
use Rattle.std.proofs.lemmas.List.{take_more_same}
use Rattle.std.proofs.lemmas.Option.{slice_get_within, get_or_from_slice_get}
use Rattle.demand_set.specs.declared.reports.Report.{Report}
use Rattle.clock.specs.Reports.{ClockHistory}
use Rattle.clock_book.specs.Books.{BookOf}
use Rattle.migration.specs.Moving.{IsNoFrontAt}
use Rattle.migration.specs.Targets.{IsFrontOf, AreFronts, IsFirstOff}
use Rattle.migration.proofs.Lists.{any-default}

-- one report more is the same in both
pub same-more : (xs ys : List Report) (n : ℕ) (x y : Report) → take n xs ≡ take n ys → slice_get xs (n + 1 - 1) ≡ Some x → slice_get ys (n + 1 - 1) ≡ Some y → x ≡ y → take (n + 1) xs ≡ take (n + 1) ys
same-more xs ys n x y same first second alike =
    let back : n + 1 - 1 ≡ n = omega arith in
    let here : slice_get xs n ≡ Some x = subst (λ (k : ℕ). slice_get xs k ≡ Some x) back first in
    let there : slice_get ys n ≡ Some y = subst (λ (k : ℕ). slice_get ys k ≡ Some y) back second in
    take_more_same xs ys n x (slice_get_within xs n x here) (slice_get_within ys n y there) same (get_or_from_slice_get xs n x x here ∙ alike ∙ sym (get_or_from_slice_get ys n y x there))

module _ {D : Type 0} (clocks : List ClockHistory) (books : List (BookOf D)) where
  -- one book more has a front
  pub front-more : (n : ℕ) (b : BookOf D) (c : ClockHistory) → AreFronts clocks books n → n < length books → b ≡ get_or books n b → ((d : ClockHistory) → get_or clocks n d ≡ c) → IsFrontOf b.state.clock.reports c.reports
      → AreFronts clocks books (n + 1)
  front-more n b c are within here source front = record {
    each = λ k x d below. elim (cases_lt k n) [
      | inl less ↦ are.each k x d less
      | inr beyond ↦
          let last : n ≡ k = omega (arith, beyond, below) in
          let F : BookOf D → ClockHistory → Type 0 = λ y z. IsFrontOf y.state.clock.reports z.reports in
          let At : ℕ → Type 0 = λ i. F (get_or books i x) (get_or clocks i d) in
          let mine : b ≡ get_or books n x = here ∙ any-default books n b x within in
          subst At last (subst (λ (y : BookOf D). F y (get_or clocks n d)) mine (subst (F b) (sym (source d)) front))
    ];
  }

  -- this book is the first whose reports are no front
  pub first-off : (n number : ℕ) (b : BookOf D) (c : ClockHistory) → AreFronts clocks books n → n < length books → b ≡ get_or books n b → ((d : ClockHistory) → get_or clocks n d ≡ c) → IsNoFrontAt number b.state.clock.reports c.reports
      → IsFirstOff clocks books n number
  first-off n number b c are within here source off = record {
    within = within;
    before = are;
    off = λ x d.
        let F : BookOf D → ClockHistory → Type 0 = λ y z. IsNoFrontAt number y.state.clock.reports z.reports in
        let mine : b ≡ get_or books n x = here ∙ any-default books n b x within in
        subst (λ (y : BookOf D). F y (get_or clocks n d)) mine (subst (F b) (sym (source d)) off);
  }
