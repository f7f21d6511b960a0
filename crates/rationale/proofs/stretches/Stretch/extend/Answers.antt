use Rattle.std.proofs.Common.{◌≡◌, ◌+◌, ◌-◌, ◌++◌, [], ◌∷◌, List, length, ap, refl, sym, ◌∙◌, arith}
use Rattle.std.proofs.lemmas.Result.{err_from_is_err_and}
use Rattle.rationale.specs.declared.lines.Line.{Line}
use Rattle.rationale.proofs.Growing.{last_line, last_goods, last_few, longer_by_line, longer_by_push, left_alone}
use Rattle.rationale.proofs.stretches.Stretch.extend.Goals as goal

pub extend-requires-clause-goods : goal.extend-requires-clause-goods
extend-requires-clause-goods c =
    last_goods c.args.goods.now c.args.self.now (c.len-last.result - 1) c.index_mut.result.now c.requires.stretch
    (let i = c.requires.stretch.some in let e = c.len-last.ensures in let l = c.args.self.now.lines.ok in omega arith) c.index_mut.ensures.value ∙ sym c.requires.goods

pub extend-requires-clause-few : goal.extend-requires-clause-few
extend-requires-clause-few c =
    last_few c.args.self.now (c.len-last.result - 1) c.index_mut.result.now
    (let i = c.requires.stretch.some in let e = c.len-last.ensures in let l = c.args.self.now.lines.ok in omega arith) c.index_mut.ensures.value c.requires.few

pub returns-then-extend-clause-ok : goal.returns-then-extend-clause-ok
returns-then-extend-clause-ok c =
    longer_by_line c.args.goods.now c.args.self.now _ c.args.prices.now (c.len-last.result - 1) c.index_mut.result.now c.extend.new.self c.requires.stretch refl
    (let i = c.requires.stretch.some in let e = c.len-last.ensures in let l = c.args.self.now.lines.ok in omega arith) c.index_mut.ensures.value refl
    (c.if-extend.ensures.taken refl c.args.goods.now (last_line c.args.goods.now c.args.self.now (c.len-last.result - 1) c.index_mut.result.now c.requires.stretch
    (let i = c.requires.stretch.some in let e = c.len-last.ensures in let l = c.args.self.now.lines.ok in omega arith) c.index_mut.ensures.value) c.requires.low)

pub returns-clause-ok : goal.returns-clause-ok
returns-clause-ok c =
    let lines = c.args.self.now.lines.items in
    let long : c.len-last.result - 1 + 1 ≡ length lines = (let i = c.requires.stretch.some in let e = c.len-last.ensures in let l = c.args.self.now.lines.ok in omega arith) in
    let left = left_alone lines (c.len-last.result - 1) c.index_mut.result.now c.extend.new.self long c.index_mut.ensures.value (c.extend.ensures.left c.if-extend.false) in
    longer_by_push c.args.goods.now c.args.self.now _ c.args.prices.now c.new.result c.requires.stretch refl (c.in_ok-push.ensures.items ∙ ap (λ (xs : List Line). xs ++ c.new.result ∷ []) left)
    c.new.ensures.line (c.new.ensures.seen c.args.self.now.demand)

pub returns-in_err-push-clause-err : goal.returns-in_err-push-clause-err
returns-in_err-push-clause-err c =
    let lines = c.args.self.now.lines.items in
    let long : c.len-last.result - 1 + 1 ≡ length lines = (let i = c.requires.stretch.some in let e = c.len-last.ensures in let l = c.args.self.now.lines.ok in omega arith) in
    let exit = err_from_is_err_and c.from_residual.result c.from_residual.ensures.1 in
    rw exit.1 (refl, c.in_err-push.ensures.items ∙ left_alone lines (c.len-last.result - 1) c.index_mut.result.now c.extend.new.self long c.index_mut.ensures.value (c.extend.ensures.left c.if-extend.false))
