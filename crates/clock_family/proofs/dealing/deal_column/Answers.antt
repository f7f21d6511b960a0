use Rattle.std.proofs.Common.{rules, arith, ◌≡◌, ℕ, suc, ◌+◌, ◌<◌, ◌≤◌, [], ◌∷◌, ◌++◌, ◌∙◌, ap, sym, subst, length, get_or, set, take, drop, refl, append-nil, append_assoc, length-append}
use Rattle.std.proofs.lemmas.List.{map-set, get_or-map, length-map, length-set}
use Rattle.clock_family.specs.Closing.{IsRoomy}
use Rattle.clock_family.specs.Rows.{dealt, items_of}
use Rattle.clock_family.proofs.Rows.{deal-step, undealt-row, all-set, all-at}
use Rattle.clock_family.proofs.Deals.{no-more, deal-none}
use Rattle.clock_family.proofs.dealing.deal_column.Goals as goal

pub loop-pass-init : goal.loop-pass-init
loop-pass-init g c =
    let all : length (items_of c.args.rows.now.items) ≤ length c.args.passes.items = simp length-map (omega (arith, c.requires.count)) in
    record {
      done = ([], sym (append-nil c.args.passes.items), deal-none (items_of c.args.rows.now.items) (length c.args.passes.items) all);
      many = refl;
      room = c.requires.room;
    }

pub index_mut-requires : goal.index_mut-requires
index_mut-requires g c =
    let i = c.loop-pass.invariant in
    let short = ap length i.done.1 in
    let both = length-append c.loop-pass.passes.items i.done.0 in
    let at : length c.loop-pass.passes.items ≡ c.len.result + 1 = search rules in
    let many = i.many in
    let count = c.requires.count in
    let less : c.len.result < length c.loop-pass.rows.items = omega (arith, short, both, at, many, count) in
    search rules

pub push_reserved-requires : goal.push_reserved-requires
push_reserved-requires g c =
    let i = c.loop-pass.invariant in
    let rows = items_of c.args.rows.now.items in
    let j : ℕ = c.len.result in
    let short = ap length i.done.1 in
    let both = length-append c.loop-pass.passes.items i.done.0 in
    let at : length c.loop-pass.passes.items ≡ suc j = search rules in
    let many = i.many in
    let count = c.requires.count in
    let less : j < length c.loop-pass.rows.items = omega (arith, short, both, at, many, count) in
    let r = c.index_mut.result.now in
    let now : items_of c.loop-pass.rows.items ≡ take (suc j) rows ++ dealt (drop (suc j) rows) i.done.0 = i.done.2 ∙ ap (λ (n : ℕ). take n rows ++ dealt (drop n rows) i.done.0) at in
    let here : r.items ≡ get_or (take (suc j) rows ++ dealt (drop (suc j) rows) i.done.0) j r.items = ap (λ v. v.items) c.index_mut.ensures.value ∙ sym (get_or-map (λ v. v.items) c.loop-pass.rows.items j r r.items less) ∙ ap (λ l. get_or l j r.items) now in
    let wide : length rows ≡ length c.args.rows.now.items = length-map c.args.rows.now.items (λ v. v.items) in
    let long = undealt-row c.args.clock rows j i.done.0 r.items c.requires.long (omega (arith, less, wide, many)) here in
    let Roomy : _ → Type 0 = IsRoomy c.args.clocks in
    let room = (subst Roomy (sym c.index_mut.ensures.value) (all-at Roomy c.loop-pass.rows.items j r less i.room)).room_is in
    let clock = c.requires.clock in
    search rules

pub loop-pass-preserved : goal.loop-pass-preserved
loop-pass-preserved g c =
    let i = c.loop-pass.invariant in
    let rows = items_of c.args.rows.now.items in
    let j : ℕ = c.len.result in
    let is : c.loop-pass.passes.items ≡ c.pop.new.self.items ++ c.in-Some.pass ∷ [] = search rules in
    let short = ap length i.done.1 in
    let both = length-append c.loop-pass.passes.items i.done.0 in
    let at : length c.loop-pass.passes.items ≡ suc j = search rules in
    let left : j ≡ length c.pop.new.self.items = search rules in
    let many = i.many in
    let count = c.requires.count in
    let less : j < length c.loop-pass.rows.items = omega (arith, short, both, at, many, count) in
    let r = c.index_mut.result.now in
    let now : items_of c.loop-pass.rows.items ≡ take (suc j) rows ++ dealt (drop (suc j) rows) i.done.0 = i.done.2 ∙ ap (λ (n : ℕ). take n rows ++ dealt (drop n rows) i.done.0) at in
    let here : r.items ≡ get_or (take (suc j) rows ++ dealt (drop (suc j) rows) i.done.0) j r.items = ap (λ v. v.items) c.index_mut.ensures.value ∙ sym (get_or-map (λ v. v.items) c.loop-pass.rows.items j r r.items less) ∙ ap (λ l. get_or l j r.items) now in
    let wide : length rows ≡ length c.args.rows.now.items = length-map c.args.rows.now.items (λ v. v.items) in
    let step = deal-step rows j i.done.0 r.items c.in-Some.pass (omega (arith, less, wide, many)) here in
    let new = c.push_reserved.new.self in
    let put : items_of (set c.loop-pass.rows.items j new) ≡ set (items_of c.loop-pass.rows.items) j new.items = map-set (λ v. v.items) c.loop-pass.rows.items j new in
    let Roomy : _ → Type 0 = IsRoomy c.args.clocks in
    let room = subst Roomy (sym c.index_mut.ensures.value) (all-at Roomy c.loop-pass.rows.items j r less i.room) in
    record {
      done = (
        c.in-Some.pass ∷ i.done.0,
        i.done.1 ∙ ap (λ l. l ++ i.done.0) is ∙ append_assoc c.pop.new.self.items (c.in-Some.pass ∷ []) i.done.0,
        put ∙ (λ k. set (now k) j ((c.push_reserved.ensures.items ∙ ap (λ p. r.items ++ p ∷ []) c.new.ensures) k)) ∙ step ∙ ap (λ (n : ℕ). take n rows ++ dealt (drop n rows) (c.in-Some.pass ∷ i.done.0)) left,
      );
      many = length-set c.loop-pass.rows.items j new ∙ i.many;
      room = all-set Roomy c.loop-pass.rows.items j new i.room (record { room_is = omega (arith, room.room_is, c.push_reserved.ensures.capacity) });
    }

pub returns-clause-rows : goal.returns-clause-rows
returns-clause-rows g c =
    let i = c.loop-pass.invariant in
    let rows = items_of c.args.rows.now.items in
    let none : length c.loop-pass.passes.items ≡ 0 = search rules in
    let empty : c.loop-pass.passes.items ≡ [] = no-more c.loop-pass.passes.items none in
    let all : i.done.0 ≡ c.args.passes.items = ap (λ l. l ++ i.done.0) (sym empty) ∙ sym i.done.1 in
    i.done.2 ∙ (λ k. take (none k) rows ++ dealt (drop (none k) rows) (all k))
