-- The front in either form, and behind it the rest. Assumes nothing.
use Rattle.std.proofs.Common.{◌≡◌, ◌∙◌, sym, ap, Bool, true, false, [], ◌∷◌}
use Rattle.std.proofs.lemmas.List.Edits.{sets}
use Rattle.snapshot.specs.Records.{route_form_by}
use Rattle.snapshot.specs.Lent.{columns_of}
use Rattle.tables.specs.Judging.{route_at}
use Rattle.records.specs.Putting.{front_bytes, rest_bytes, Puts}
use Rattle.records.specs.PuttingLaws.{front_put, first_put, route_put}
use Rattle.records.proofs.put_route.Goals as goal
use Rattle.records.proofs.put_route.Goals.{then-four, else-four}

pub returns : goal.returns
returns c =
    let r = route_at (columns_of c.args.rows.now) c.args.row in
    let mid = c.if-four.out in
    let behind = c.if-four.behind in
    let front : Puts (front_bytes r) c.args.out.now c.args.at mid behind = elim c.if-four.branch [
      | then-four w ↦ front_put r true (sym w.if-four.true ∙ c.four_byte-four.ensures) (c.route_kind.ensures ∙ ap (λ (b : Bool). (route_form_by b).kind) w.if-four.true) c.put8.ensures c.put8-2.ensures
          (w.out-is ∙ w.put32.ensures) w.behind-is
      | else-four w ↦ front_put r false (sym w.if-four.false ∙ c.four_byte-four.ensures) (c.route_kind.ensures ∙ ap (λ (b : Bool). (route_form_by b).kind) w.if-four.false) c.put8.ensures c.put8-2.ensures
          (w.out-is ∙ w.put16.ensures) w.behind-is
    ] in
    let rest : c.put32-5.new.d ≡ sets mid behind (rest_bytes r) =
    rw (c.put32-5.ensures, c.put32-4.ensures, c.put32-3.ensures, c.put8-4.ensures, c.put8-3.ensures, c.put16-2.ensures, c.put32-2.ensures)
    (first_put 4 r.preference (2 ∷ 1 ∷ 1 ∷ 4 ∷ 4 ∷ 4 ∷ []) (r.path ∷ r.origin ∷ r.mark ∷ r.med ∷ r.nid ∷ r.peer ∷ []) mid behind) in
    route_put r front rest
