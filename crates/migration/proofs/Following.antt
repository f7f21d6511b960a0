-- The next report of a clock, offered to a book that has those before it.
use Rattle.std.proofs.Common.{◌≡◌, ⊎_elim, ◌≤◌, ℕ, ◌+◌, List, [], ◌∷◌, ◌++◌, length, take, drop, slice_get, Option, Some, None, IsSome, sym, ◌∙◌, ap, subst, arith}
use Rattle.std.proofs.lemmas.List.{length-take-le}
use Rattle.std.proofs.lemmas.Option.{slice_get_within, get_or_from_slice_get}
use Rattle.lot_base.specs.Demands.{IsDemand}
use Rattle.lot_base.specs.declared.auction_terms.Terms.{Terms}
use Rattle.demand_set.specs.declared.reports.Report.{Report}
use Rattle.house_io.specs.Disks.{DiskShown, IfDiskTold, told_moments}
use Rattle.house_io.specs.Moments.{Moments, AtEach}
use Rattle.house_io.proofs.Moments.{at_weaker, at_both}
use Rattle.clock.specs.Reports.{ClockHistory}
use Rattle.clock.specs.Judging.{IsLegal, TakesAll, judgement_of}
use Rattle.clock.specs.declared.judging.Judgement.TheVariants.{Take}
use Rattle.clock.specs.declared.judging.Offered.{Offered}
use Rattle.clock.proofs.Append.{takes-at}
use Rattle.recovery.specs.Journaled.{Owner, StandsForReports}
use Rattle.clock_book.specs.Past.{IsEither}
use Rattle.clock_book.specs.Books.{BookOf, BookState}
use Rattle.clock_book.specs.Offers.{IsMended, IsOffer, Answers, with_pending}
use Rattle.migration.specs.Moving.{StandsForFront}
use Rattle.migration.specs.Targets.{HasFirst}
use Rattle.migration.proofs.Lists.{all-at, split-at, take-next}
use Rattle.migration.proofs.Alike.{judges-alike}

module _ (source : ClockHistory) (n : ℕ) (r : Report) (legal : IsLegal source) (at : slice_get source.reports n ≡ Some r) where
  taken-next : judgement_of (record source { reports = take n source.reports }) r ≡ Take
  taken-next =
      let T : List Report → Type 0 = λ l. TakesAll (record source { reports = [] }) l in
      takes-at (record source { reports = [] }) (take n source.reports) r (drop (n + 1) source.reports) (subst T (split-at source.reports n r at) legal.takes)

  fits-next : IsDemand source.terms.goods r.demand
  fits-next =
      let P : Report → Type 0 = λ x. IsDemand source.terms.goods x.demand in
      subst P (get_or_from_slice_get source.reports n r r at) (all-at P source.reports n r (slice_get_within source.reports n r at) legal.demands)

  module _ {D : Type 0} (b : BookOf D) (has : HasFirst source n b) (terms : b.state.clock.terms ≡ b.origin.terms) (number : b.state.clock.number ≡ b.origin.clock) where
    pub book-takes : judgement_of b.state.clock r ≡ Take
    book-takes =
        let same : b.state.clock.number ≡ source.number = number ∙ sym has.number in
        let clock : b.state.clock ≡ record { terms = b.origin.terms; number = source.number; reports = take n source.reports } = λ i. record { terms = terms i; number = same i; reports = has.reports i } in
        ap (λ (k : ClockHistory). judgement_of k r) clock ∙ judges-alike (record source { reports = take n source.reports }) b.origin.terms has.alike r ∙ taken-next

    pub book-fits : IsDemand b.state.clock.terms.goods r.demand
    book-fits =
        let P : List ℕ → Type 0 = λ goods. IsDemand goods r.demand in
        subst P (sym (ap (λ (t : Terms). t.goods) terms ∙ has.alike.goods)) fits-next

not-some : {A : Type 0} (o : Option A) → o ≡ None → IsSome o → ⊥
not-some None is sure = cc sure
not-some (Some x) is sure = cc is

mended-same : (old mid : BookState) → old.pending ≡ None → IsMended old mid → mid ≡ old
mended-same old mid settled mended =
    let same : with_pending None old ≡ old = λ i. record { clock = old.clock; history = old.history; pending = sym settled i } in
    ⊎_elim (λ is. is ∙ same) (λ one. absurd (let e : None ≡ Some one.0 = sym settled ∙ one.1 in cc e)) mended

-- where nothing was pending, the answer is that of the state as it was
pub answered : (owner : Owner) (old : BookState) (r : Report) (answer : Offered) (new : BookState) (before after : DiskShown) → old.pending ≡ None → IsOffer owner old r answer new before after
    → Answers owner answer old r new
answered owner old r answer new before after settled offer = ⊎_elim
    (λ failed. absurd (not-some old.pending settled failed.pending))
    (λ on. let A : BookState → Type 0 = λ s. Answers owner answer s r new in subst A (mended-same old on.mid settled on.mended) on.answered)
    offer

module _ (owner : Owner) (reports : List Report) (n : ℕ) (old : BookState) (r : Report) (are : old.clock.reports ≡ take n reports) (settled : old.pending ≡ None) (at : slice_get reports n ≡ Some r) where
  abbrev Front : List ℕ → Type 0
  Front file = StandsForFront owner reports (length old.clock.reports) file

  short : length old.clock.reports ≤ n
  short = let within = slice_get_within reports n r at in omega (arith, ap length are, length-take-le n reports (omega (arith, within)))

  front-as : (count : ℕ) (mine : List Report) (file : List ℕ) → mine ≡ take count reports → n ≤ count → count ≤ n + 1 → StandsForReports owner mine file → Front file
  front-as count mine file is least most stands =
      let within = slice_get_within reports n r at in
      let few = short in
      let S : List Report → Type 0 = λ l. StandsForReports owner l file in
      record {
        count = count;
        no_fewer = omega (arith, few, least);
        no_more = omega (arith, within, most);
        stands = subst S is stands;
      }

  front-either : (mine : List Report) (file : List ℕ) → mine ≡ take n reports → IsEither owner mine (Some r) file → Front file
  front-either mine file is either = ⊎_elim
      (λ before. front-as n mine file is (omega arith) (omega arith) before)
      (λ after. front-as (n + 1) (mine ++ r ∷ []) file (ap (λ (l : List Report). l ++ r ∷ []) is ∙ take-next reports n r at) (omega arith) (omega arith) after)
      either

  front-rest : (before after : Moments) → AtEach (IsEither owner old.clock.reports old.pending) before after → AtEach Front before after
  front-rest before after each = at_weaker (IsEither owner old.clock.reports old.pending) Front before after
      (λ file is. let E : Option Report → Type 0 = λ o. IsEither owner old.clock.reports o file in front-as n old.clock.reports file are (omega arith) (omega arith) (subst E settled is)) each

  pub front-leaves : (answer : Offered) (new : BookState) (before after : DiskShown) → IsOffer owner old r answer new before after → IfDiskTold before after (AtEach Front)
  front-leaves answer new before after offer t = ⊎_elim
      (λ failed. front-rest (told_moments before) (told_moments after) (failed.leaves t))
      (λ on.
      let mid = on.mid in
      let left = on.leaves t in
      let same : mid ≡ old = mended-same old mid settled on.mended in
      let is : mid.clock.reports ≡ take n reports = ap (λ (s : BookState). s.clock.reports) same ∙ are in
      at_both Front (told_moments before) left.between (told_moments after) (front-rest (told_moments before) left.between left.mending)
      (at_weaker (IsEither owner mid.clock.reports (Some r)) Front left.between (told_moments after) (λ file either. front-either mid.clock.reports file is either) left.answering))
      offer
