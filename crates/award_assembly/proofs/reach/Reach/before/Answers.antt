use Rattle.std.proofs.Common.{◌≡◌, ◌∙◌, ◌+◌, sym, ap, subst, length, List, Bool, ℕ, arith}
use Rattle.std.proofs.lemmas.List.{with_items_is}
use Rattle.award_assembly.specs.Remaining.{IsWith, AreAllTrue}
use Rattle.award_assembly.specs.Units.{AreKeys}
use Rattle.award_assembly.proofs.Searching.{IsSearched, searched-more, searched-still, searched-all}
use Rattle.award_assembly.proofs.reach.Reach.before.Goals.{then-not-all, else-not-all}
use Rattle.award_assembly.proofs.reach.Reach.before.Goals as goal

pub loop-number-preserved : goal.loop-number-preserved
loop-number-preserved c =
    let s = c.args.goods.now in
    elim c.if-not-all.branch [
      | then-not-all w ↦
          let keyed = subst (λ (ks : List ℕ). AreKeys c.args.units.now c.args.self.now ks) (sym w.deref.ensures.value) c.in_ok-keys.ensures in
          let totals : c.if-not-all.totals.items ≡ w.join.new.totals =
          ap (λ v. v.items) w.totals-is
          ∙ with_items_is c.loop-number.totals w.join.new.totals ((w.join.ensures c.args.self.now keyed).size ∙ ap length w.deref_mut.ensures.value ∙ sym c.loop-number.totals.ok.0) in
          let joined = subst (λ (before : List Bool). IsWith s c.args.self.now w.get.result before w.join.new.totals) w.deref_mut.ensures.value (w.join.ensures c.args.self.now keyed) in
          let more = searched-more s c.args.self.now c.args.demand.now c.loop-number.number w.get.result c.loop-number.totals.items w.join.new.totals w.get.ensures c.loop-number.invariant.searched joined in record {
            searched = subst (λ (xs : List Bool). IsSearched s c.args.self.now c.args.demand.now (c.loop-number.number + 1) xs) (sym totals) more;
            all = λ is. subst (λ (xs : List Bool). AreAllTrue xs) (w.deref-then-not-all.ensures.value ∙ sym (ap (λ v. v.items) w.totals-is)) (w.are_all_true-all.ensures (sym w.all-is ∙ is));
          }
      | else-not-all w ↦
          let all = c.loop-number.invariant.all w.if-not-all.false in
          let still = searched-still s c.args.self.now c.args.demand.now c.loop-number.number c.loop-number.totals.items c.loop-number.invariant.searched all in record {
            searched = subst (λ (xs : List Bool). IsSearched s c.args.self.now c.args.demand.now (c.loop-number.number + 1) xs) (sym (ap (λ v. v.items) w.totals-is)) still;
            all = λ is. subst (λ (xs : List Bool). AreAllTrue xs) (sym (ap (λ v. v.items) w.totals-is)) all;
          }
    ]

pub returns : goal.returns
returns c = λ opening p behind reach. searched-all c.args.goods.now opening p c.args.self.now c.args.demand.now behind c.loop-number.number c.loop-number.totals.items reach c.requires.demand.in_box (omega (arith, c.len-number-end.ensures.value)) c.loop-number.invariant.searched
