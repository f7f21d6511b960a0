use Rattle.std.proofs.Common.{◌∙◌, ◌+◌, ap, sym, subst, arith, suc, ◌≡◌}
use Rattle.std.specs.Prelude.{length}
use Rattle.std.proofs.lemmas.List.{length-set}
use Rattle.lot_base.specs.declared.auction_terms.Terms.{Terms}
use Rattle.valuation.specs.Carried.{raised_by}
use Rattle.clock.specs.Reports.{ClockHistory, ClockOf}
use Rattle.clock.specs.Standing.{prices_of}
use Rattle.trial.specs.Bidding.{bidders_of}
use Rattle.trial.specs.Rounds.{AreFollowed, AreOn, AreReady, AreSteady}
use Rattle.trial.proofs.Leading.{followed-on, rose-on, set-inside, supply-here, for-ready, column-on}
use Rattle.trial.proofs.Leaping.{gone-on, has-gone, number-stay}
use Rattle.trial.proofs.Slots.{column-at}
use Rattle.trial.proofs.carrying.lead.Goals as goal

pub catch_up_all-requires-clause-goods : goal.catch_up_all-requires-clause-goods
catch_up_all-requires-clause-goods c = λ place here member.
    supply-here c.args.terms.now (bidders_of c.args.terms.now.goods c.args.valuations.now) c.args.clock.now.history.number c.args.before.now c.args.followers.now place c.requires.followed here (λ e. member (e ∙ sym c.number-number.ensures.value))

pub index_mut-requires : goal.index_mut-requires
index_mut-requires c =
    let terms = c.args.terms.now in
    let u = bidders_of terms.goods c.args.valuations.now in
    let old = c.args.clock.now.history in
    let set = c.raised_between-set.result.0 in
    let inside = set-inside u c.args.before.now old terms set c.requires.terms (rose-on u c.args.before.now c.look.result.prices old set c.requires.led c.look.ensures.prices c.raised_between-set.ensures) in
    omega (arith, inside, c.catch_up_all.ensures.columns.count)

pub column_for-requires : goal.column_for-requires
column_for-requires c =
    let terms = c.args.terms.now in
    let u = bidders_of terms.goods c.args.valuations.now in
    let old = c.args.clock.now.history in
    let set = c.raised_between-set.result.0 in
    let inside = set-inside u c.args.before.now old terms set c.requires.terms (rose-on u c.args.before.now c.look.result.prices old set c.requires.led c.look.ensures.prices c.raised_between-set.ensures) in
    column-at terms.goods c.catch_up_all.new.columns.items set c.take-slot.result _ (c.take-slot.ensures.value ∙ c.index_mut.ensures.value) inside c.catch_up_all.ensures.columns

pub least_left-left-requires-clause-column : goal.least_left-left-requires-clause-column
least_left-left-requires-clause-column c =
    let terms = c.args.terms.now in
    let u = bidders_of terms.goods c.args.valuations.now in
    let old = c.args.clock.now.history in
    let number = c.number-number.result in
    let set = c.raised_between-set.result.0 in
    let inside = set-inside u c.args.before.now old terms set c.requires.terms (rose-on u c.args.before.now c.look.result.prices old set c.requires.led c.look.ensures.prices c.raised_between-set.ensures) in
    let followed = subst (λ n. AreFollowed terms u n c.args.before.now c.args.followers.now) (sym c.number-number.ensures.value) c.requires.followed in
    (for-ready terms u number set c.args.before.now c.args.followers.now c.catch_up_all.new.followers c.in_ok-column.column followed c.in_ok-catch_up_all.ensures.ready c.in_ok-column.ensures inside).column_is

pub least_left-left-requires-clause-within : goal.least_left-left-requires-clause-within
least_left-left-requires-clause-within c =
    let terms = c.args.terms.now in
    let u = bidders_of terms.goods c.args.valuations.now in
    let old = c.args.clock.now.history in
    let number = c.number-number.result in
    let set = c.raised_between-set.result.0 in
    let inside = set-inside u c.args.before.now old terms set c.requires.terms (rose-on u c.args.before.now c.look.result.prices old set c.requires.led c.look.ensures.prices c.raised_between-set.ensures) in
    let followed = subst (λ n. AreFollowed terms u n c.args.before.now c.args.followers.now) (sym c.number-number.ensures.value) c.requires.followed in
    (for-ready terms u number set c.args.before.now c.args.followers.now c.catch_up_all.new.followers c.in_ok-column.column followed c.in_ok-catch_up_all.ensures.ready c.in_ok-column.ensures inside).within

pub least_left-left-requires-clause-same : goal.least_left-left-requires-clause-same
least_left-left-requires-clause-same c = λ place here member owes.
    let ready = c.in_ok-catch_up_all.ensures.ready in
    (ready.each place (let k = ready.count in omega (arith, k, here)) member).same owes

pub step_all-requires-clause-column : goal.step_all-requires-clause-column
step_all-requires-clause-column c = λ place here member.
    let terms = c.args.terms.now in
    let u = bidders_of terms.goods c.args.valuations.now in
    let old = c.args.clock.now.history in
    let number = c.number-number.result in
    let set = c.raised_between-set.result.0 in
    let inside = set-inside u c.args.before.now old terms set c.requires.terms (rose-on u c.args.before.now c.look.result.prices old set c.requires.led c.look.ensures.prices c.raised_between-set.ensures) in
    let followed = subst (λ n. AreFollowed terms u n c.args.before.now c.args.followers.now) (sym c.number-number.ensures.value) c.requires.followed in
    let suits = for-ready terms u number set c.args.before.now c.args.followers.now c.catch_up_all.new.followers c.in_ok-column.column followed c.in_ok-catch_up_all.ensures.ready c.in_ok-column.ensures inside in
    column-on terms.goods set number place c.in_ok-column.column c.catch_up_all.new.followers c.least_left-left.new.followers suits c.least_left-left.ensures.on here member

pub put_back-requires : goal.put_back-requires
put_back-requires c =
    let terms = c.args.terms.now in
    let u = bidders_of terms.goods c.args.valuations.now in
    let old = c.args.clock.now.history in
    let set = c.raised_between-set.result.0 in
    let inside = set-inside u c.args.before.now old terms set c.requires.terms (rose-on u c.args.before.now c.look.result.prices old set c.requires.led c.look.ensures.prices c.raised_between-set.ensures) in
    let same = length-set c.catch_up_all.new.columns.items set c.take-slot.new.self in
    omega (arith, inside, same, c.catch_up_all.ensures.columns.count)

pub returns-clause-gone : goal.returns-clause-gone
returns-clause-gone c =
    let terms = c.args.terms.now in
    let u = bidders_of terms.goods c.args.valuations.now in
    let old = c.args.clock.now.history in
    let new = c.repeat.new.self.history in
    let before = c.args.before.now in
    let set = c.raised_between-set.result.0 in
    let value = c.number-number.ensures.value in
    let is = ap (λ (k : ClockOf). k.history) c.in_ok-added.ensures.ok in
    let told = rose-on u before c.look.result.prices old set c.requires.led c.look.ensures.prices c.raised_between-set.ensures in
    let ready = subst (λ n. AreReady n set c.args.followers.now c.catch_up_all.new.followers) value c.in_ok-catch_up_all.ensures.ready in
    let on = subst (λ n. AreOn n set c.catch_up_all.new.followers c.least_left-left.new.followers) value c.least_left-left.ensures.on in
    let steady = subst (λ n. AreSteady n set c.least_left-left.result c.least_left-left.new.followers) value c.least_left-left.ensures.steady in
    let at = gone-on u terms before set c.least_left-left.result c.in_ok-added.added c.args.followers.now c.catch_up_all.new.followers c.least_left-left.new.followers old new c.requires.led c.requires.terms c.requires.followed told
    ready on steady is c.in_ok-added.ensures.few c.in_ok-added.ensures.steps in
    has-gone u before set c.least_left-left.result c.in_ok-added.added old new at is c.in_ok-added.ensures.steps

pub returns-clause-followed : goal.returns-clause-followed
returns-clause-followed c =
    let terms = c.args.terms.now in
    let u = bidders_of terms.goods c.args.valuations.now in
    let old = c.args.clock.now.history in
    let new = c.repeat.new.self.history in
    let before = c.args.before.now in
    let set = c.raised_between-set.result.0 in
    let value = c.number-number.ensures.value in
    let is = ap (λ (k : ClockOf). k.history) c.in_ok-added.ensures.ok in
    let told = rose-on u before c.look.result.prices old set c.requires.led c.look.ensures.prices c.raised_between-set.ensures in
    let ready = subst (λ n. AreReady n set c.args.followers.now c.catch_up_all.new.followers) value c.in_ok-catch_up_all.ensures.ready in
    let on = subst (λ n. AreOn n set c.catch_up_all.new.followers c.least_left-left.new.followers) value c.least_left-left.ensures.on in
    let steady = subst (λ n. AreSteady n set c.least_left-left.result c.least_left-left.new.followers) value c.least_left-left.ensures.steady in
    let at = gone-on u terms before set c.least_left-left.result c.in_ok-added.added c.args.followers.now c.catch_up_all.new.followers c.least_left-left.new.followers old new c.requires.led c.requires.terms c.requires.followed told
    ready on steady is c.in_ok-added.ensures.few c.in_ok-added.ensures.steps in
    let one : c.in_ok-added.added + 1 ≡ suc c.in_ok-added.added = omega arith in
    let followed = subst (λ n. AreFollowed terms u n before c.args.followers.now) (sym value) c.requires.followed in
    let stays : c.number-number.result ≡ new.number = value ∙ sym (number-stay c.in_ok-added.added old) ∙ ap (λ (k : ClockHistory). k.number) (sym is) in
    subst (λ n. AreFollowed terms u n (prices_of new) c.step_all.new.followers) stays
    (followed-on terms u c.number-number.result (c.in_ok-added.added + 1) set before (prices_of new) c.args.followers.now c.catch_up_all.new.followers c.least_left-left.new.followers c.step_all.new.followers followed c.in_ok-catch_up_all.ensures.ready c.least_left-left.ensures.on
    c.step_all.ensures (c.requires.led.each_good ∙ ap (λ (t : Terms). length t.goods) c.requires.terms) (ap (λ k. raised_by k set before) one ∙ sym at.prices))
