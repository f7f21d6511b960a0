use Rattle.std.proofs.Common.{◌≡◌, ◌-◌, ◌∙◌, ap, arith, drop, length, subst, sym}
use Rattle.clock.specs.Reports.{ClockHistory}
use Rattle.report_log.specs.Logs.{entry_of}
use Rattle.report_log.specs.Pieces.{IsFaulty, IsUnfinished, IsUpTo}
use Rattle.report_log.proofs.PieceReading.{entry-more, rest-more}
use Rattle.report_log.proofs.entries.take_entries.Goals as goal

pub entries-init : goal.entries-init
entries-init c =
    let none : length c.args.bytes.now - length c.args.bytes.now ≡ 0 = omega arith in
    record { terms = c.requires; within = omega arith; behind = sym (ap (λ n. drop n c.args.bytes.now) none); up_to = λ all is. is }

pub entries-preserved : goal.entries-preserved
entries-preserved c =
    let i = c.entries.invariant in
    let h = rw c.in-Entry.is at c.in_ok-take_entry.ensures in
    let less = h.entry.shorter in
    record {
      terms = ap (λ (k : ClockHistory). k.terms) h.new_is ∙ i.terms;
      within = omega (arith, i.within, less);
      behind = rest-more c.args.bytes.now c.entries.rest.now (entry_of (length c.args.terms.now.goods) h.report) c.in-Entry.after.now i.within i.behind h.entry.whole;
      up_to = λ all is. subst (λ (k : ClockHistory). IsUpTo c.args.terms.now k all c.in-Entry.after.now) (sym h.new_is) (entry-more c.args.terms.now c.entries.clock.history all c.entries.rest.now c.in-Entry.after.now h.report (i.up_to all is) h.entry);
    }

pub entries-smaller : goal.entries-smaller
entries-smaller c = let h = rw c.in-Entry.is at c.in_ok-take_entry.ensures in h.entry.shorter

pub returns-in-Unfinished-clause-terms : goal.returns-in-Unfinished-clause-terms
returns-in-Unfinished-clause-terms c =
    let h = rw c.in-Unfinished.is at c.in_ok-take_entry.ensures in
    ap (λ (k : ClockHistory). k.terms) h.1 ∙ c.entries.invariant.terms

pub returns-in-Faulty-clause-terms : goal.returns-in-Faulty-clause-terms
returns-in-Faulty-clause-terms c =
    let h = rw c.in-Faulty.is at c.in_ok-take_entry.ensures in
    ap (λ (k : ClockHistory). k.terms) h.1 ∙ c.entries.invariant.terms

pub returns-in-Unfinished-clause-leaves : goal.returns-in-Unfinished-clause-leaves
returns-in-Unfinished-clause-leaves c =
    let h = rw c.in-Unfinished.is at c.in_ok-take_entry.ensures in
    subst (IsUnfinished c.args.terms.now c.take_entry.new.clock.history) c.entries.invariant.behind (subst (λ (k : ClockHistory). IsUnfinished c.args.terms.now k c.entries.rest.now) (sym h.1) h.0)

pub returns-in-Unfinished-clause-up_to : goal.returns-in-Unfinished-clause-up_to
returns-in-Unfinished-clause-up_to c all is =
    let h = rw c.in-Unfinished.is at c.in_ok-take_entry.ensures in
    subst (IsUpTo c.args.terms.now c.take_entry.new.clock.history all) c.entries.invariant.behind (subst (λ (k : ClockHistory). IsUpTo c.args.terms.now k all c.entries.rest.now) (sym h.1) (c.entries.invariant.up_to all is))

pub returns-in-Faulty-clause-leaves : goal.returns-in-Faulty-clause-leaves
returns-in-Faulty-clause-leaves c =
    let h = rw c.in-Faulty.is at c.in_ok-take_entry.ensures in
    subst (IsFaulty c.args.terms.now c.take_entry.new.clock.history) c.entries.invariant.behind (subst (λ (k : ClockHistory). IsFaulty c.args.terms.now k c.entries.rest.now) (sym h.1) h.0)

pub returns-in-Faulty-clause-up_to : goal.returns-in-Faulty-clause-up_to
returns-in-Faulty-clause-up_to c all is =
    let h = rw c.in-Faulty.is at c.in_ok-take_entry.ensures in
    subst (IsUpTo c.args.terms.now c.take_entry.new.clock.history all) c.entries.invariant.behind (subst (λ (k : ClockHistory). IsUpTo c.args.terms.now k all c.entries.rest.now) (sym h.1) (c.entries.invariant.up_to all is))
