-- An offer to a book in the words of its history alone.
use Rattle.std.proofs.Common.{◌≡◌, ⊎_elim, ◌≤◌, List, [], ◌∷◌, ◌++◌, length, Option, Some, None, refl, sym, ◌∙◌, ap, subst, arith, append-nil, append_assoc, length-append}
use Rattle.std.specs.Prelude.{IfSome}
use Rattle.lot_base.specs.declared.limits.TheConstants.{GREATEST_FILE}
use Rattle.demand_set.specs.declared.reports.Report.{Report}
use Rattle.clock.specs.Reports.{ClockHistory, with_report}
use Rattle.clock.specs.Judging.{judgement_of}
use Rattle.clock.specs.declared.judging.Judgement.{Judgement}
use Rattle.clock.specs.declared.judging.Judgement.TheVariants as judged
use Rattle.clock.specs.declared.judging.Offered.{Offered}
use Rattle.clock.specs.declared.judging.Offered.TheVariants as answers
use Rattle.house_io.specs.Disks.{DiskShown}
use Rattle.recovery.specs.Journaled.{Owner}
use Rattle.clock_book.specs.Opening.{history_of}
use Rattle.clock_book.specs.declared.entries.Entry.{Entry}
use Rattle.clock_book.specs.declared.entries.Entry.TheVariants as entry
use Rattle.clock_book.specs.DeskHistories.{IsInDoubt}
use Rattle.clock_book.specs.Books.{BookState}
use Rattle.clock_book.specs.Offers.{record_end, IsOffer, Answers, counted, marked, with_pending}
use Rattle.clock_book.proofs.Histories.{reports-append}
use Rattle.clock_book.specs.declared.origins.Origin.{Origin}
use Rattle.lot_base.specs.Goods.{IsRange}
use Rattle.session.specs.Asking.{IsOffered}
use Rattle.std.proofs.lemmas.Bool.{cases_eq}
use Rattle.clock.specs.Judging.{IsJudgement}
use Rattle.clock.proofs.Judges.{judgement-is}
use Rattle.turn_desk.specs.Histories.{GoesOn}
use Rattle.clock_family.specs.Turns.{clock_in, IsCounted, Appends, IsHistoryOffer}

judged-there : (c d : ClockHistory) (r : Report) (j : Judgement) → c ≡ d → judgement_of c r ≡ j → judgement_of d r ≡ j
judged-there c d r j e is = let P : ClockHistory → Type 0 = λ k. judgement_of k r ≡ j in subst P e is

appends-from : (owner : Owner) (answer : Offered) (mid new : BookState) (h : List Entry) (r : Report) → mid.history ≡ h → mid.clock ≡ clock_in owner h → Answers owner answer mid r new → Appends owner answer h r new.history
appends-from owner answers.Taken mid new h r same clock is =
    let P : ClockHistory → Type 0 = λ k. record_end owner k.reports r ≤ GREATEST_FILE in
    (judged-there mid.clock (clock_in owner h) r judged.Take clock is.0.take, subst P clock is.0.within, ap (λ (s : BookState). s.history) is.1 ∙ ap (λ l. l ++ entry.Offered r ∷ []) same)
appends-from owner answers.Again mid new h r same clock is =
    (judged-there mid.clock (clock_in owner h) r judged.Again clock is.0, ap (λ (s : BookState). s.history) is.1 ∙ same)
appends-from owner (answers.Refused judgement) mid new h r same clock is =
    (judged-there mid.clock (clock_in owner h) r judgement clock is.0, is.1, is.2, ap (λ (s : BookState). s.history) is.3 ∙ same)
appends-from owner (answers.Full needed) mid new h r same clock is =
    (judged-there mid.clock (clock_in owner h) r judged.Take clock is.0, is.1 ∙ ap (λ (k : ClockHistory). record_end owner k.reports r) clock, is.2, ap (λ (s : BookState). s.history) is.3 ∙ same)
appends-from owner answers.DiskFault mid new h r same clock is = ap (λ (s : BookState). s.history) is.1 ∙ ap (λ l. l ++ entry.Mark r ∷ []) same
appends-from owner answers.NoMemory mid new h r same clock is = absurd is

clock-counted : (owner : Owner) (old : BookState) (q : Report) → old.clock ≡ clock_in owner old.history → with_report old.clock q ≡ clock_in owner (old.history ++ entry.Counted q ∷ [])
clock-counted owner old q e =
    ap (λ (k : ClockHistory). with_report k q) e
    ∙ ap (history_of owner) (sym (reports-append old.history (entry.Counted q ∷ [])))

module _ (owner : Owner) (old new : BookState) (r : Report) (answer : Offered) (clock : old.clock ≡ clock_in owner old.history) (doubt : IfSome old.pending (IsInDoubt old.history)) where
  none-counted : (mid : BookState) → mid ≡ with_pending None old → Answers owner answer mid r new → IsHistoryOffer owner old.history r answer new.history
  none-counted mid e is = record {
    counted = [];
    is_counted = tt;
    appends = appends-from owner answer mid new (old.history ++ []) r (ap (λ (s : BookState). s.history) e ∙ sym (append-nil old.history))
        (ap (λ (s : BookState). s.clock) e ∙ clock ∙ ap (clock_in owner) (sym (append-nil old.history))) is;
  }

  one-counted : (mid : BookState) (q : Report) → old.pending ≡ Some q → mid ≡ counted old q → Answers owner answer mid r new → IsHistoryOffer owner old.history r answer new.history
  one-counted mid q some e is =
      let P : Option Report → Type 0 = λ o. IfSome o (IsInDoubt old.history) in
      record {
        counted = entry.Counted q ∷ [];
        is_counted = subst P some doubt;
        appends = appends-from owner answer mid new (old.history ++ entry.Counted q ∷ []) r (ap (λ (s : BookState). s.history) e)
            (ap (λ (s : BookState). s.clock) e ∙ clock-counted owner old q clock) is;
      }

  not-mended : answer ≡ answers.DiskFault → new ≡ marked old r → IsHistoryOffer owner old.history r answer new.history
  not-mended fault e =
      let P : Offered → Type 0 = λ a. Appends owner a (old.history ++ []) r new.history in
      record {
        counted = [];
        is_counted = tt;
        appends = subst P (sym fault) (ap (λ (s : BookState). s.history) e ∙ ap (λ l. l ++ entry.Mark r ∷ []) (sym (append-nil old.history)));
      }

  pub history-offer : (before after : DiskShown) → IsOffer owner old r answer new before after → IsHistoryOffer owner old.history r answer new.history
  history-offer before after is =
      ⊎_elim (λ failed. not-mended failed.fault failed.marks)
      (λ on. ⊎_elim (λ none. none-counted on.mid none on.answered) (λ one. one-counted on.mid one.0 one.1 one.2 on.answered) on.mended) is

-- no more than two entries are appended
appended-on : (owner : Owner) (answer : Offered) (h after : List Entry) (r : Report) → Appends owner answer h r after → (more : List Entry) × (after ≡ h ++ more) × (length more ≤ 1)
appended-on owner answers.Taken h after r is = (entry.Offered r ∷ [], is.2, omega arith)
appended-on owner answers.Again h after r is = ([], is.1 ∙ sym (append-nil h), omega arith)
appended-on owner (answers.Refused j) h after r is = ([], is.3 ∙ sym (append-nil h), omega arith)
appended-on owner (answers.Full n) h after r is = ([], is.3 ∙ sym (append-nil h), omega arith)
appended-on owner answers.DiskFault h after r is = (entry.Mark r ∷ [], is, omega arith)
appended-on owner answers.NoMemory h after r is = absurd is

counted-few : (h counted : List Entry) → IsCounted h counted → length counted ≤ 1
counted-few h [] is = omega arith
counted-few h (entry.Counted q ∷ []) is = omega arith
counted-few h (entry.Counted q ∷ e ∷ es) is = absurd is
counted-few h (entry.Offered q ∷ es) is = absurd is
counted-few h (entry.Mark q ∷ es) is = absurd is

pub goes-on : (owner : Owner) (h after : List Entry) (r : Report) (answer : Offered) → IsHistoryOffer owner h r answer after → GoesOn h after
goes-on owner h after r answer is =
    let tail = appended-on owner answer (h ++ is.counted) after r is.appends in
    let few = counted-few h is.counted is.is_counted in
    (is.counted ++ tail.0, tail.1 ∙ append_assoc h is.counted tail.0, simp length-append (let t = tail.2 in omega (arith, few, t)))

-- only at its own clock is a bidder no member
own_clock : (c : ClockHistory) (r : Report) → 1 ≤ r.bidder → r.bidder ≤ c.terms.bidders → judgement_of c r ≡ judged.NotMember → r.bidder ≡ c.number
own_clock c r low high e =
    let none = subst (IsJudgement c r) e (judgement-is c r) in
    ⊎_elim (λ same. same) (λ other. absurd (none (record { from_one = low; to_last = high; other = other }))) (cases_eq r.bidder c.number)

-- what an offer may be refused for
pub refusal-of : (owner : Owner) (h after : List Entry) (r : Report) (answer : Offered) → IsRange 1 owner.terms.bidders r.bidder → IsHistoryOffer owner h r answer after → IsOffered (r.bidder ≡ owner.clock) answer
refusal-of owner h after r answers.Taken range is = tt
refusal-of owner h after r answers.Again range is = tt
refusal-of owner h after r (answers.Refused judged.Take) range is = absurd (is.appends.1 refl)
refusal-of owner h after r (answers.Refused judged.Again) range is = absurd (is.appends.2 refl)
refusal-of owner h after r (answers.Refused judged.NotMember) range is = own_clock (clock_in owner (h ++ is.counted)) r range.at_least range.at_most is.appends.0
refusal-of owner h after r (answers.Refused judged.NoRound) range is = tt
refusal-of owner h after r (answers.Refused (judged.Early round)) range is = tt
refusal-of owner h after r (answers.Refused (judged.Conflict round)) range is = tt
refusal-of owner h after r (answers.Refused (judged.Over round)) range is = tt
refusal-of owner h after r (answers.Full needed) range is = tt
refusal-of owner h after r answers.DiskFault range is = tt
refusal-of owner h after r answers.NoMemory range is = tt

-- the origin of a pass is that of the book at its desk
pub same-some : (a b : Origin) → Some a ≡ Some b → a ≡ b
same-some a b e = cc
