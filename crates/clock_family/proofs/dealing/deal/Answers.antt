use Rattle.std.proofs.Common.{rules, arith, ◌≡◌, ℕ, ◌+◌, List, [], ◌∷◌, ◌++◌, ◌∙◌, ap, sym, subst, map, length, take, refl}
use Rattle.std.specs.List.{AllByRecursion}
use Rattle.std.proofs.lemmas.List.{map-append, length-map, take_more, take_all}
use Rattle.clock_book.specs.declared.entries.Entry.{Entry}
use Rattle.clock_book.specs.declared.origins.Origin.{Origin}
use Rattle.turn_desk.specs.Passes.{Known}
use Rattle.clock_family.specs.Closing.{IsRoomy}
use Rattle.clock_family.specs.Opening.{LaidOf}
use Rattle.clock_family.specs.Rows.{dealt, items_of, AreDealt}
use Rattle.clock_family.proofs.Places.{taken-next}
use Rattle.clock_family.proofs.Rows.{length-dealt, long-front, all-at}
use Rattle.clock_family.proofs.Deals.{no-more, spare-roomy, spare-empty, none-dealt, dealt-more}
use Rattle.clock_family.proofs.dealing.deal.Goals as goal

pub loop-stand-init : goal.loop-stand-init
loop-stand-init g c =
    let whole : length c.args.laid.items ≡ c.len-clocks.result = search rules in
    let room = c.requires.desks.room_is in
    record {
      within = search rules;
      whole = sym whole;
      rest = c.from_vec-laid.ensures.items;
      desks = no-more c.args.desks.items c.requires.desks.empty;
      dealt = none-dealt [] (items_of c.args.rows.now.items) refl (spare-empty (length c.args.laid.items) c.args.rows.now.items c.requires.rows);
      many = refl;
      room = subst (λ (n : ℕ). AllByRecursion (IsRoomy n) c.args.rows.now.items) whole (spare-roomy (length c.args.laid.items) c.args.rows.now.items c.requires.rows);
      space = omega (arith, room, whole);
    }

pub deal_column-requires-clause-count : goal.deal_column-requires-clause-count
deal_column-requires-clause-count g c =
    let i = c.loop-stand.invariant in
    let x = c.in-Some.stand in
    let is : c.loop-stand.laid.items ≡ x ∷ c.pop_front.new.self.items = search rules in
    let next = taken-next c.args.laid.items c.pop_front.new.self.items c.loop-stand.clock x (sym is ∙ i.rest) in
    let P : LaidOf g.row.D.Denot → Type 0 = λ l. length l.passes ≡ length c.args.rows.now.items in
    let fits = subst P (sym (next.here x)) (all-at P c.args.laid.items c.loop-stand.clock x next.within c.requires.passes) in
    ap length c.into_parts-desk.ensures.passes ∙ fits ∙ sym i.many

pub deal_column-requires-clause-long : goal.deal_column-requires-clause-long
deal_column-requires-clause-long g c =
    let i = c.loop-stand.invariant in
    let within = i.within in
    let whole = i.whole in
    let front : length (take c.loop-stand.clock c.args.laid.items) ≡ c.loop-stand.clock = long-front c.loop-stand.clock c.args.laid.items (omega (arith, within, whole)) in
    let Long : ℕ → Type 0 = λ n. AllByRecursion (λ (r : List (Known Entry Origin)). length r ≡ n) (items_of c.loop-stand.rows.items) in
    subst Long front i.dealt.long

pub loop-stand-preserved : goal.loop-stand-preserved
loop-stand-preserved g c =
    let i = c.loop-stand.invariant in
    let x = c.in-Some.stand in
    let m : ℕ = c.loop-stand.clock in
    let laid = c.args.laid.items in
    let rows = items_of c.loop-stand.rows.items in
    let is : c.loop-stand.laid.items ≡ x ∷ c.pop_front.new.self.items = search rules in
    let next = taken-next laid c.pop_front.new.self.items m x (sym is ∙ i.rest) in
    let short = ap length is in
    let more : take (m + 1) laid ≡ take m laid ++ x ∷ [] = take_more laid m x next.within ∙ ap (λ z. take m laid ++ z ∷ []) (sym (next.here x)) in
    let P : LaidOf g.row.D.Denot → Type 0 = λ l. length l.passes ≡ length c.args.rows.now.items in
    let fits = subst P (sym (next.here x)) (all-at P laid m x next.within c.requires.passes) in
    let wide : length rows ≡ length c.loop-stand.rows.items = length-map c.loop-stand.rows.items (λ v. v.items) in
    let put = c.deal_column.ensures.rows ∙ ap (dealt rows) c.into_parts-desk.ensures.passes in
    let now = c.deal_column.new.rows.items in
    let widens : length (items_of now) ≡ length now = length-map now (λ v. v.items) in
    let Dealt : List (LaidOf g.row.D.Denot) → List (List (Known Entry Origin)) → Type 0 = λ ls rs. AreDealt ls rs in
    let on = dealt-more (take m laid) x rows i.dealt (wide ∙ i.many ∙ sym fits) in
    record {
      within = (let w = i.within in omega (arith, w, short));
      whole = i.whole;
      rest = next.rest;
      desks = c.push_reserved.ensures.items ∙ (λ k. i.desks k ++ c.into_parts-desk.ensures.desk k ∷ []) ∙ sym (map-append (λ (l : LaidOf g.row.D.Denot). l.desk) (take m laid) (x ∷ [])) ∙ ap (map (λ (l : LaidOf g.row.D.Denot). l.desk)) (sym more);
      dealt = subst (Dealt (take (m + 1) laid)) (sym put) (subst (λ ls. Dealt ls (dealt rows x.passes)) (sym more) on);
      many = sym widens ∙ ap length put ∙ length-dealt rows x.passes ∙ wide ∙ i.many;
      room = c.deal_column.ensures.room;
      space = (let s = i.space in let k = c.push_reserved.ensures.capacity in omega (arith, s, k));
    }

pub returns-clause-desks : goal.returns-clause-desks
returns-clause-desks g c =
    let i = c.loop-stand.invariant in
    let within = i.within in
    let whole = i.whole in
    let none : length c.loop-stand.laid.items ≡ 0 = search rules in
    i.desks ∙ ap (map (λ (l : LaidOf g.row.D.Denot). l.desk)) (take_all c.loop-stand.clock c.args.laid.items (omega (arith, within, whole, none)))

pub returns-clause-dealt : goal.returns-clause-dealt
returns-clause-dealt g c =
    let i = c.loop-stand.invariant in
    let within = i.within in
    let whole = i.whole in
    let none : length c.loop-stand.laid.items ≡ 0 = search rules in
    let Dealt : List (LaidOf g.row.D.Denot) → Type 0 = λ ls. AreDealt ls (items_of c.loop-stand.rows.items) in
    subst Dealt (take_all c.loop-stand.clock c.args.laid.items (omega (arith, within, whole, none))) i.dealt
