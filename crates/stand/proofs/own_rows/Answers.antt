-- The contenders stand at the front of a list, so rounds on its front lead to their rows.
use Rattle.std.proofs.Common.{true, false, Bool, ℕ, List, ◌++◌, ◌≡◌, length, take, subst, sym, ap, ◌∙◌}
use Rattle.rows.specs.Lent.{columns_in}
use Rattle.model.specs.Lent.{Front}
use Rattle.model.specs.Columns.{Columns, Fits}
use Rattle.model.specs.Listing.{contenders_in, counts_in, gathered, groups_in, rest_in, Listed, Ready}
use Rattle.model.proofs.ListLaws.{front_is, front_wider, front_inside, packed_front}
use Rattle.model.proofs.ListingLaws.{ready, contenders_inside, rest_early, rest_late}
use Rattle.stand.proofs.RoomLaws.{room_long}
use Rattle.stand.proofs.own_rows.Goals as goal

-- the contenders at the front of a longer list
front : {n routers m : ℕ} {t : Columns} {order₀ order rows counts : List ℕ} (rest : List ℕ) → n ≡ routers → Listed n t m order₀ order rows counts → Front m (order ++ rest) (contenders_in routers t)
front {t} rest e l = front_wider rest (front_is (packed_front l.order_has) (ap (λ (k : ℕ). contenders_in k t) e))

module _ (routers : ℕ) (t : Columns) (fits : Fits routers t) where
  ready_front : {m : ℕ} {order : List ℕ} → Front m order (contenders_in routers t) → Ready (groups_in t.asn (take m order)) (gathered t.med (take m order)) (counts_in t.router routers (take m order))
  ready_front f = subst (λ (xs : List ℕ). Ready (groups_in t.asn xs) (gathered t.med xs) (counts_in t.router routers xs)) (sym f.are) (ready routers t fits)

  rest_front : (late : Bool) {m : ℕ} {order : List ℕ} → Front m order (contenders_in routers t) → rest_in late routers t.router t.asn t.med (take m order) ≡ rest_in late routers t.router t.asn t.med (contenders_in routers t)
  rest_front late f = ap (rest_in late routers t.router t.asn t.med) f.are

pub rest_rows-requires-clause-inside : goal.rest_rows-requires-clause-inside
rest_rows-requires-clause-inside c =
    let t = columns_in c.args.routes.now in
    let routers = length c.args.early.now in
    let fits = c.requires.fits in
    let n : length (take routers c.unplaced-counts.result) ≡ routers = room_long routers _ fits.few c.unplaced-counts.ensures in
    (front_inside (front _ n c.contenders-m.ensures) (contenders_inside routers t fits), fits.asn, fits.med)

pub rest_rows-requires-clause-ready : goal.rest_rows-requires-clause-ready
rest_rows-requires-clause-ready c =
    let t = columns_in c.args.routes.now in
    let routers = length c.args.early.now in
    let fits = c.requires.fits in
    let n : length (take routers c.unplaced-counts.result) ≡ routers = room_long routers _ fits.few c.unplaced-counts.ensures in
    ready_front routers t fits (front _ n c.contenders-m.ensures)

pub returns : goal.returns
returns c =
    let t = columns_in c.args.routes.now in
    let routers = length c.args.early.now in
    let fits = c.requires.fits in
    let n : length (take routers c.unplaced-counts.result) ≡ routers = room_long routers _ fits.few c.unplaced-counts.ensures in
    let f = front _ n c.contenders-m.ensures in
    record {
      early_rows = c.rest_rows.ensures.early_rows ∙ rest_front routers t fits false f ∙ rest_early routers t fits;
      late_rows = c.rest_rows.ensures.late_rows ∙ rest_front routers t fits true f ∙ rest_late routers t fits;
    }
