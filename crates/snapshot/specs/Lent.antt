-- The code's lent tables as those of the definitions.
use Rattle.std.specs.Prelude.{◌≡◌, replicate}
use Rattle.snapshot.specs.declared.Columns as shown
use Rattle.snapshot.specs.declared.Tables as shown_tables
use Rattle.snapshot.specs.declared.LentColumns as lent
use Rattle.snapshot.specs.declared.LentTables as lent_all
use Rattle.snapshot.specs.declared.Arrays as owned
use Rattle.snapshot.specs.Limits.{most_routers, room_distances, most_prefixes, most_routes}
use Rattle.snapshot.specs.Tables.{Columns, Tables, columns, tables}

-- the columns that a value of the code's struct shows
abbrev pub columns_of : shown.Columns → Columns
columns_of c = columns c.router.now c.asn.now c.preference.now c.path.now c.origin.now c.mark.now c.med.now c.nid.now c.peer.now

-- the tables that it shows
abbrev pub tables_of : shown_tables.Tables → Tables
tables_of t = tables t.ids.now t.distances.now t.address.now t.bits.now t.routes.now (columns_of t.rows)

-- what stands in columns that are lent to be filled
abbrev pub lent_columns : lent.LentColumns → Columns
lent_columns c = columns c.router.now c.asn.now c.preference.now c.path.now c.origin.now c.mark.now c.med.now c.nid.now c.peer.now

-- and in tables
abbrev pub lent_tables : lent_all.LentTables → Tables
lent_tables t =
    tables t.ids.now t.distances.now t.address.now t.bits.now t.routes.now
    (columns t.router.now t.asn.now t.preference.now t.path.now t.origin.now t.mark.now t.med.now t.nid.now t.peer.now)

-- what stands in room of one's own
abbrev pub owned_tables : owned.Arrays → Tables
owned_tables a =
    tables a.ids a.distances a.address a.bits a.routes
    (columns a.router a.asn a.preference a.path a.origin a.mark a.med a.nid a.peer)

-- tables of zeros, each as long as its limit
abbrev pub zeros : Tables
zeros =
    let field = replicate most_prefixes 0 in
    let column = replicate most_routes 0 in
    tables (replicate most_routers 0) (replicate room_distances 0) field field field
    (columns column column column column column column column column column)

-- the columns lent are the same as before, whatever stands in them
pub record KeepsColumns (a b : lent.LentColumns) : Type 0 where
  pub router : b.router.ghost_name ≡ a.router.ghost_name
  pub asn : b.asn.ghost_name ≡ a.asn.ghost_name
  pub preference : b.preference.ghost_name ≡ a.preference.ghost_name
  pub path : b.path.ghost_name ≡ a.path.ghost_name
  pub origin : b.origin.ghost_name ≡ a.origin.ghost_name
  pub mark : b.mark.ghost_name ≡ a.mark.ghost_name
  pub med : b.med.ghost_name ≡ a.med.ghost_name
  pub nid : b.nid.ghost_name ≡ a.nid.ghost_name
  pub peer : b.peer.ghost_name ≡ a.peer.ghost_name

-- and the tables
pub record Keeps (a b : lent_all.LentTables) : Type 0 where
  pub ids : b.ids.ghost_name ≡ a.ids.ghost_name
  pub distances : b.distances.ghost_name ≡ a.distances.ghost_name
  pub address : b.address.ghost_name ≡ a.address.ghost_name
  pub bits : b.bits.ghost_name ≡ a.bits.ghost_name
  pub routes : b.routes.ghost_name ≡ a.routes.ghost_name
  pub router : b.router.ghost_name ≡ a.router.ghost_name
  pub asn : b.asn.ghost_name ≡ a.asn.ghost_name
  pub preference : b.preference.ghost_name ≡ a.preference.ghost_name
  pub path : b.path.ghost_name ≡ a.path.ghost_name
  pub origin : b.origin.ghost_name ≡ a.origin.ghost_name
  pub mark : b.mark.ghost_name ≡ a.mark.ghost_name
  pub med : b.med.ghost_name ≡ a.med.ghost_name
  pub nid : b.nid.ghost_name ≡ a.nid.ghost_name
  pub peer : b.peer.ghost_name ≡ a.peer.ghost_name
