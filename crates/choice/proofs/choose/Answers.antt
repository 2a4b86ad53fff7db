-- The eight steps, each on the front that the one before it left.
use Rattle.std.proofs.Common.{ℕ, List, length, get_or, ◌≡◌, refl, ap, ◌∙◌, rules, arith, length-take}
use Rattle.std.proofs.Math.Seq.{length_front}
use Rattle.model.specs.Decision.{Mesh, none, preferred, unbeaten, own_if_any, nearest}
use Rattle.model.proofs.DecisionLaws.{picks_preferred, picks_unbeaten, picks_own}
use Rattle.model.specs.Stability.{available}
use Rattle.model.proofs.StabilityLaws.{available_all}
use Rattle.model.specs.Lent.{Inside}
use Rattle.model.specs.Columns.{most_rows, lent_mesh}
use Rattle.model.proofs.ListLaws.{inside_part, inside_step, inside_span, inside_long, front_long, front_inside, front_of, front_next, packed_front}
use Rattle.rows.specs.Lent.{columns_in}
use Rattle.choice.proofs.choose.Goals as goal

-- what each step leaves is inside the columns
module _ (M : Mesh) (held : List ℕ) (r : ℕ) where
  inside-available : Inside M.rows (available M held r)
  inside-available = inside_part (inside_span M.rows refl) (available_all M held r)

  inside-preferred : Inside M.rows (preferred M (available M held r))
  inside-preferred = inside_step (picks_preferred M) (available M held r) inside-available

  inside-unbeaten : Inside M.rows (unbeaten M (preferred M (available M held r)))
  inside-unbeaten = inside_step (picks_unbeaten M) (preferred M (available M held r)) inside-preferred

  inside-own : Inside M.rows (own_if_any M r (unbeaten M (preferred M (available M held r))))
  inside-own = inside_step (picks_own M r) (unbeaten M (preferred M (available M held r))) inside-unbeaten

pub preferred-kept-requires : goal.preferred-kept-requires
preferred-kept-requires c =
    let M : Mesh = lent_mesh (length c.args.held.now) c.args.mesh.now.ids.now c.args.mesh.now.distances.now (columns_in c.args.mesh.now.routes) in
    let fits = c.requires.placed.fits in
    let inside = front_inside c.available-offers.ensures (inside-available M c.args.held.now c.args.r) in
    (inside_long inside fits.preference, inside_long inside fits.path, inside_long inside fits.origin)

pub slice_bounds-unbeaten-end : goal.slice_bounds-unbeaten-end
slice_bounds-unbeaten-end c =
    let M : Mesh = lent_mesh (length c.args.held.now) c.args.mesh.now.ids.now c.args.mesh.now.distances.now (columns_in c.args.mesh.now.routes) in
    front_long (front_next (preferred M) c.available-offers.ensures (packed_front c.preferred-kept.ensures))

pub unbeaten-free-requires : goal.unbeaten-free-requires
unbeaten-free-requires c =
    let M : Mesh = lent_mesh (length c.args.held.now) c.args.mesh.now.ids.now c.args.mesh.now.distances.now (columns_in c.args.mesh.now.routes) in
    let fits = c.requires.placed.fits in
    let front = front_next (preferred M) c.available-offers.ensures (packed_front c.preferred-kept.ensures) in
    let long = length_front c.available-offers.new.rows c.preferred-kept.new.rows c.available-offers.result c.preferred-kept.auto.rows ∙ c.available-offers.auto.rows in
    let room : length c.unlisted-left.result ≡ most_rows = search rules in
    let inside = front_inside front (inside-preferred M c.args.held.now c.args.r) in
    (inside_long inside fits.asn, inside_long inside fits.med, omega (arith, front_long front, front.few, long, fits.rows, room, length-take (length c.args.mesh.now.routes.router.now) c.unlisted-list.result))

pub own_if_any-own-requires : goal.own_if_any-own-requires
own_if_any-own-requires c =
    let M : Mesh = lent_mesh (length c.args.held.now) c.args.mesh.now.ids.now c.args.mesh.now.distances.now (columns_in c.args.mesh.now.routes) in
    let front = front_next (preferred M) c.available-offers.ensures (packed_front c.preferred-kept.ensures) in
    front_inside (front_of (unbeaten M) front (packed_front c.unbeaten-free.ensures)) (inside-unbeaten M c.args.held.now c.args.r)

pub nearest-near-requires-clause-inside : goal.nearest-near-requires-clause-inside
nearest-near-requires-clause-inside c =
    let M : Mesh = lent_mesh (length c.args.held.now) c.args.mesh.now.ids.now c.args.mesh.now.distances.now (columns_in c.args.mesh.now.routes) in
    let fits = c.requires.placed.fits in
    let front = front_next (preferred M) c.available-offers.ensures (packed_front c.preferred-kept.ensures) in
    let free = front_of (unbeaten M) front (packed_front c.unbeaten-free.ensures) in
    let own = front_next (own_if_any M c.args.r) free c.own_if_any-own.ensures in
    (front_inside own (inside-own M c.args.held.now c.args.r), fits.nid, fits.peer)

pub returns : goal.returns
returns c =
    let M : Mesh = lent_mesh (length c.args.held.now) c.args.mesh.now.ids.now c.args.mesh.now.distances.now (columns_in c.args.mesh.now.routes) in
    let front = front_next (preferred M) c.available-offers.ensures (packed_front c.preferred-kept.ensures) in
    let free = front_of (unbeaten M) front (packed_front c.unbeaten-free.ensures) in
    let own = front_next (own_if_any M c.args.r) free c.own_if_any-own.ensures in
    let near = front_next (nearest M c.args.r) own c.nearest-near.ensures in
    c.first.ensures ∙ ap (λ (rows : List ℕ). get_or rows 0 none) near.are
