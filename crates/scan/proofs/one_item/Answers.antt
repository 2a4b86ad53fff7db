-- The kind tells which record is due; each way on is a law of `Items`.
use Rattle.std.proofs.Common.{◌≡◌, ℕ, Bool, true, false, not, T, sym, ap, ◌∙◌, subst, Ok, Err}
use Rattle.std.proofs.lemmas.Result.{err_from_is_err_and}
use Rattle.snapshot.specs.Records.{route_forms, stands}
use Rattle.scan.specs.Scan.{told}
use Rattle.scan.specs.ScanLaws.{prefix_stop, prefix_next_lem, route_stop, route_next_lem, end_answer}
use Rattle.scan.proofs.one_item.Goals as goal

module _ (kind next : ℕ) (is : kind ≡ next) {asked : Bool} (e : asked ≡ stands route_forms kind) where
  -- whether a route may stand there, as the code asks
  yes : asked ≡ true → T (stands route_forms next)
  yes a = subst T (sym a ∙ e ∙ ap (stands route_forms) is) tt

  no : asked ≡ false → T (not (stands route_forms next))
  no a = subst (λ (b : Bool). T (not b)) (sym a ∙ e ∙ ap (stands route_forms) is) tt

pub returns-in_err-next : goal.returns-in_err-next
returns-in_err-next c =
    let p = err_from_is_err_and c.from_residual.result c.from_residual.ensures.1 in
    rw (p.1, p.2) (sym (ap told (prefix_stop c.requires (sym c.kind_at-kind.ensures ∙ c.if-kind-eq4.true) c.in_err-next.ensures)))

pub with_prefix-requires : goal.with_prefix-requires
with_prefix-requires c = (prefix_next_lem c.requires (sym c.kind_at-kind.ensures ∙ c.if-kind-eq4.true) c.in_ok-next.ensures).0

pub returns-then-kind-eq4 : goal.returns-then-kind-eq4
returns-then-kind-eq4 c =
    let n = prefix_next_lem c.requires (sym c.kind_at-kind.ensures ∙ c.if-kind-eq4.true) c.in_ok-next.ensures in
    (rw c.with_prefix.ensures n.1, n.2, n.3)

pub returns-in_err-next-2 : goal.returns-in_err-next-2
returns-in_err-next-2 c =
    let p = err_from_is_err_and c.from_residual-in_err-next-2.result c.from_residual-in_err-next-2.ensures.1 in
    let is = yes c.kind_at-kind.result _ c.kind_at-kind.ensures c.route_stands.ensures c.if-route_stands.true in
    rw (p.1, p.2) (sym (ap told (route_stop c.requires is c.in_err-next-2.ensures)))

pub with_route-requires : goal.with_route-requires
with_route-requires c =
    let is = yes c.kind_at-kind.result _ c.kind_at-kind.ensures c.route_stands.ensures c.if-route_stands.true in
    let n = route_next_lem c.requires is c.in_ok-next-2.ensures in
    (n.0, n.1)

pub returns-then-route_stands : goal.returns-then-route_stands
returns-then-route_stands c =
    let is = yes c.kind_at-kind.result _ c.kind_at-kind.ensures c.route_stands.ensures c.if-route_stands.true in
    let n = route_next_lem c.requires is c.in_ok-next-2.ensures in
    (rw c.with_route.ensures n.2, n.3, n.4)

pub returns-in_err-end : goal.returns-in_err-end
returns-in_err-end c =
    let p = err_from_is_err_and c.from_residual-in_err-end.result c.from_residual-in_err-end.ensures.1 in
    let other = no c.kind_at-kind.result _ c.kind_at-kind.ensures c.route_stands.ensures c.if-route_stands.false in
    rw (p.1, p.2) (end_answer c.requires (λ e. c.if-kind-eq4.false (c.kind_at-kind.ensures ∙ e)) other (Err c.in_err-end.field-0.0) c.in_err-end.ensures)

pub returns : goal.returns
returns c =
    let other = no c.kind_at-kind.result _ c.kind_at-kind.ensures c.route_stands.ensures c.if-route_stands.false in
    end_answer c.requires (λ e. c.if-kind-eq4.false (c.kind_at-kind.ensures ∙ e)) other (Ok tt) c.in_ok-end.ensures
