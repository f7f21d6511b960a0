use Rattle.std.proofs.Common.{◌∙◌, ◌-◌, ◌+◌, List, ℕ, ap, take, drop, rules, length, ◌≤◌}
use Rattle.recovery.specs.Streams.{WindowOf}
use Rattle.recovery.proofs.Covering.{window-payload}
use Rattle.recovery.proofs.windows.Window.payload.Goals as goal

pub returns-clause-payload : goal.returns-clause-payload
returns-clause-payload c file is =
    let inside = c.self.inside in
    let place = c.args.place in
    let within : inside.filled ≤ length inside.buffer.items = search rules in
    ap (λ (l : List ℕ). take (place.at - inside.at + place.length - (place.at - inside.at)) (drop (place.at - inside.at) l)) c.deref.ensures.value
    ∙ window-payload inside.buffer.items file inside.at inside.filled place c.args.self.now (ap (λ (w : WindowOf). w.at) c.self.view_is) (ap (λ (w : WindowOf). w.bytes) c.self.view_is) within c.requires is
