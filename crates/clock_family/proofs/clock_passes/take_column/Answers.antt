use Rattle.std.proofs.Common.{rules, arith, ◌≡◌, ℕ, ◌<◌, ◌≤◌, [], ◌∷◌, ◌++◌, ◌∙◌, ap, sym, length, get_or, set, take, drop, add-one}
use Rattle.std.proofs.lemmas.List.{map-set, get_or-map, length-map, take_all}
use Rattle.clock_family.specs.Houses.{HousePassOf}
use Rattle.clock_family.specs.Rows.{cells, fronts, rows_of}
use Rattle.clock_family.proofs.Rows.{row-at, rows-step, all-rows, column-cells}
use Rattle.clock_family.proofs.clock_passes.take_column.Goals as goal

pub take_last-pass-requires : goal.take_last-pass-requires
take_last-pass-requires g c =
    let i = c.loop-row.invariant in
    let rows = rows_of c.args.rows.now.items in
    let r = c.index_mut.result.now.passes in
    let k : ℕ = c.loop-row.row in
    let lt : k < length c.loop-row.rows.items = search rules in
    let here : r ≡ get_or (fronts c.args.clock (take k rows) ++ drop k rows) k r = ap (λ (p : HousePassOf). p.passes) c.index_mut.ensures.value ∙ (sym (get_or-map (λ (p : HousePassOf). p.passes) c.loop-row.rows.items k c.index_mut.result.now r lt) ∙ ap (λ z. get_or z k r) i.rows) in
    let long = row-at c.args.clock k rows r (all-rows _ _ c.requires.rows) (simp length-map (omega arith)) here in
    omega (arith, long)

pub loop-row-preserved : goal.loop-row-preserved
loop-row-preserved g c =
    let i = c.loop-row.invariant in
    let rows = rows_of c.args.rows.now.items in
    let r = c.index_mut.result.now.passes in
    let k : ℕ = c.loop-row.row in
    let lt : k < length c.loop-row.rows.items = search rules in
    let here : r ≡ get_or (fronts c.args.clock (take k rows) ++ drop k rows) k r = ap (λ (p : HousePassOf). p.passes) c.index_mut.ensures.value ∙ (sym (get_or-map (λ (p : HousePassOf). p.passes) c.loop-row.rows.items k c.index_mut.result.now r lt) ∙ ap (λ z. get_or z k r) i.rows) in
    let e = rows-step c.args.clock k rows r c.take_last-pass.new.self.passes c.take_last-pass.result (all-rows _ _ c.requires.rows) (simp length-map (omega arith)) here c.take_last-pass.ensures.passes in
    record {
      within = omega arith;
      long = search rules;
      count = search rules;
      room = search rules;
      list = c.push_reserved.ensures.items ∙ (ap (λ z. z ++ c.take_last-pass.result ∷ []) i.list ∙ (e.1 ∙ ap (λ (z : ℕ). cells c.args.clock (take z rows)) (sym (add-one k))));
      rows = map-set (λ (p : HousePassOf). p.passes) c.loop-row.rows.items k c.take_last-pass.new.self ∙ (ap (λ z. set z k c.take_last-pass.new.self.passes) i.rows ∙ (e.0 ∙ ap (λ (z : ℕ). fronts c.args.clock (take z rows) ++ drop z rows) (sym (add-one k))));
    }

pub returns-clause-list : goal.returns-clause-list
returns-clause-list g c =
    let i = c.loop-row.invariant in
    let rows = rows_of c.args.rows.now.items in
    let all : length rows ≤ c.loop-row.row = simp length-map (search rules) in
    i.list ∙ ap (cells c.args.clock) (take_all c.loop-row.row rows all) ∙ sym (column-cells c.args.clock c.args.rows.now.items)
