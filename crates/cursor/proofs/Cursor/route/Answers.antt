-- A route that was taken says the values of its record.
use Rattle.std.proofs.Common.{arith, ℕ, eqb, drop, get_or, ap, ap₂, ◌∙◌, ◌≡◌, Ok}
use Rattle.refusal.specs.Numbers.{Said}
use Rattle.snapshot.specs.declared.Route.{Route}
use Rattle.snapshot.specs.Records.{route_form_by, route_forms, form_at, values_at}
use Rattle.cursor.specs.declared.Cursor.{Cursor}
use Rattle.cursor.specs.Steps.{behind, after, route_at, route_next, route_said, took, judged_at}
use Rattle.cursor.specs.StepsLaws.{route_found, route_says}
use Rattle.cursor.proofs.Cursor.route.Goals as goal

pub returns : goal.returns
returns c =
    let bs = c.args.input.now in
    let at = c.args.self.at in
    let form = form_at route_forms bs at in
    let its : Said = took (after c.args.self form) (values_at form bs at) in
    let past : c.past.result ≡ after c.args.self form =
    c.past.ensures ∙ ap (behind c.args.self) c.route_size.ensures ∙ ap (λ (k : ℕ). after c.args.self (route_form_by (eqb k 7))) c.kind_at-four.ensures in
    let read : c.route_at-r.result ≡ route_at bs at (eqb (get_or bs at 0) 7) =
    c.route_at-r.ensures ∙ ap (λ (k : ℕ). route_at bs at (eqb k 7)) c.kind_at-four.ensures in
    let judged : its ≡ judged_at at (route_next c.args.k (drop at bs)) its = grind (arith, route_found) in
    ap₂ (λ (c : Cursor) (r : Route). route_said (Ok (c, r))) past read ∙ route_says (after c.args.self form) bs at (eqb (get_or bs at 0) 7) ∙ judged
