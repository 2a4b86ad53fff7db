-- The columns are gathered by place, and rounds on them lead to the rows.
use Rattle.std.proofs.Common.{true, false, refl, Bool, ℕ, List, ◌++◌, length, take, drop, take_at, subst, sym, ap, ap₂, ◌∙◌, ◌≡◌}
use Rattle.std.specs.Prelude.{eqb}
use Rattle.model.specs.Rows.{table, column, count}
use Rattle.model.specs.Listing.{group_by, counts_in, gathered, groups_in, stands_at, settled_by, rest_in, Ready}
use Rattle.model.proofs.RowLaws.{table_length}
use Rattle.stand.proofs.RoomLaws.{room_long}
use Rattle.stand.proofs.rest_rows.Goals as goal

-- a list by place that is stored in the front of room, which is lent
front : (n : ℕ) (f : ℕ → ℕ) (room xs : List ℕ) {k : ℕ} → k ≡ n → xs ≡ table k f → take n (xs ++ room) ≡ table n f
front n f room xs l e = let here = e ∙ ap (λ (m : ℕ). table m f) l in take_at xs room n (ap length here ∙ table_length n f) ∙ here

module _ (n : ℕ) (router asn med order : List ℕ) {ends meds group : List ℕ} (ends_are : ends ≡ counts_in router n order) (meds_are : meds ≡ gathered med order) (groups_are : group ≡ groups_in asn order) where
  ready_is : Ready (groups_in asn order) (gathered med order) (counts_in router n order) → Ready group meds ends
  ready_is r =
      subst (λ (e : List ℕ). Ready group meds e) (sym ends_are)
      (subst (λ (m : List ℕ). Ready group m (counts_in router n order)) (sym meds_are)
      (subst (λ (g : List ℕ). Ready g (gathered med order) (counts_in router n order)) (sym groups_are) r))

  -- lists by place that are those of the contenders give the rows of these
  rest_is : (late : Bool) {own : List ℕ} → own ≡ table (length ends) (stands_at order ends (settled_by late group meds ends)) → own ≡ rest_in late n router asn med order
  rest_is late own_is =
      own_is
      ∙ ap₂ (λ (g m : List ℕ). table (length ends) (stands_at order ends (settled_by late g m ends))) groups_are meds_are
      ∙ ap (λ (e : List ℕ). table (length e) (stands_at order e (settled_by late (groups_in asn order) (gathered med order) e))) ends_are
      ∙ ap (λ (k : ℕ). table k (stands_at order (counts_in router n order) (settled_by late (groups_in asn order) (gathered med order) (counts_in router n order)))) (table_length n _)

pub new-contest-requires : goal.new-contest-requires
new-contest-requires c =
    let t = c.args.routes.now in
    let order = c.args.order.now in
    let n = length c.args.early.now in
    let e = front n (λ r. count (λ q. eqb (column t.router.now q) r) order) (drop n c.unplaced-ends.result) c.ends.new.ends (room_long n _ c.requires.few.1 c.unplaced-ends.ensures) c.ends.ensures in
    let m = front (length order) (λ k. column t.med.now (column order k)) (drop (length order) c.past-med.result) c.gather.new.out refl c.gather.ensures in
    let g = front (length order) (group_by (λ k. column t.asn.now (column order k))) (drop (length order) c.past-group.result) c.groups.new.group refl c.groups.ensures in
    ready_is n t.router.now t.asn.now t.med.now order e m g c.requires.ready

pub returns-clause-early_rows : goal.returns-clause-early_rows
returns-clause-early_rows c =
    let t = c.args.routes.now in
    let order = c.args.order.now in
    let n = length c.args.early.now in
    let e = front n (λ r. count (λ q. eqb (column t.router.now q) r) order) (drop n c.unplaced-ends.result) c.ends.new.ends (room_long n _ c.requires.few.1 c.unplaced-ends.ensures) c.ends.ensures in
    let m = front (length order) (λ k. column t.med.now (column order k)) (drop (length order) c.past-med.result) c.gather.new.out refl c.gather.ensures in
    let g = front (length order) (group_by (λ k. column t.asn.now (column order k))) (drop (length order) c.past-group.result) c.groups.new.group refl c.groups.ensures in
    rest_is n t.router.now t.asn.now t.med.now order (c.new-contest.ensures.2 ∙ e) (c.new-contest.ensures.1 ∙ m) (c.new-contest.ensures.0 ∙ g) false c.rest_of.ensures.early_rows

pub returns-clause-late_rows : goal.returns-clause-late_rows
returns-clause-late_rows c =
    let t = c.args.routes.now in
    let order = c.args.order.now in
    let n = length c.args.early.now in
    let e = front n (λ r. count (λ q. eqb (column t.router.now q) r) order) (drop n c.unplaced-ends.result) c.ends.new.ends (room_long n _ c.requires.few.1 c.unplaced-ends.ensures) c.ends.ensures in
    let m = front (length order) (λ k. column t.med.now (column order k)) (drop (length order) c.past-med.result) c.gather.new.out refl c.gather.ensures in
    let g = front (length order) (group_by (λ k. column t.asn.now (column order k))) (drop (length order) c.past-group.result) c.groups.new.group refl c.groups.ensures in
    rest_is n t.router.now t.asn.now t.med.now order (c.new-contest.ensures.2 ∙ e) (c.new-contest.ensures.1 ∙ m) (c.new-contest.ensures.0 ∙ g) true c.rest_of.ensures.late_rows
