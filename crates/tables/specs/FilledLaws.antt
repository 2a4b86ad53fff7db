-- Tables that a snapshot was filled into hold it.
use Rattle.std.specs.Prelude.{ℕ, ◌/◌, ◌%◌, ◌≤◌, ◌≡◌, refl, Bool, true, false, cond, List, map, length, get_or}
use Rattle.std.proofs.Common.{arith, ap, ◌∙◌}
use Rattle.std.proofs.lemmas.List.{length-map}
use Rattle.std.proofs.lemmas.List.Edits.{sets}
use Rattle.std.proofs.Math.Seq.{length-sets}
use Rattle.model.specs.Rows.{table}
use Rattle.model.specs.Decision.{Route}
use Rattle.model.proofs.RowLaws.{table_length, table_at, table_same}
use Rattle.snapshot.specs.Limits.{stride, most_routes}
use Rattle.snapshot.specs.Format.{Snapshot, distance, Valid}
use Rattle.snapshot.specs.Tables.{Columns, Tables, used, put_distances, put_routes, all_routes, filled, counts_of, Held, Room, Wide}
use Rattle.snapshot.proofs.ChecksLaws.{count_range}
use Rattle.tables.specs.ListsLaws.{sets_twice}
use Rattle.snapshot.proofs.TablesLaws.{length_all}
use Rattle.tables.specs.PartsLaws.{tables_are, columns_are}

-- ---- to fill twice is to fill once

cond_twice : (b : Bool) (x y : ℕ) → cond b x (cond b x y) ≡ cond b x y
cond_twice true x y = refl
cond_twice false x y = refl

distances_twice : (s : Snapshot) (ds : List ℕ) → put_distances s (put_distances s ds) ≡ put_distances s ds
distances_twice s ds =
    let n : ℕ = length ds in
    let d : ℕ → ℕ = λ k. distance s (k / stride) (k % stride) in
    let u : ℕ → Bool = λ k. used (length s.ids) k in
    let f : ℕ → ℕ = λ k. cond (u k) (d k) (get_or ds k 0) in
    let g : ℕ → ℕ = λ k. cond (u k) (d k) (get_or (table n f) k 0) in
    ap (λ (m : ℕ). table m g) (table_length n f)
    ∙ table_same g f n (λ k l. ap (cond (u k) (d k)) (table_at f 0 n k l) ∙ cond_twice (u k) (d k) (get_or ds k 0))

field_twice : {A : Type 0} (f : A → ℕ) (ys : List A) (xs : List ℕ) → length ys ≤ length xs → sets (sets xs 0 (map f ys)) 0 (map f ys) ≡ sets xs 0 (map f ys)
field_twice f ys xs h = let e = length-map ys f in sets_twice xs (map f ys) (omega arith)

rows_twice : (c : Columns) (rs : List Route) → Wide most_routes c → length rs ≤ most_routes → put_routes (put_routes c 0 rs) 0 rs ≡ put_routes c 0 rs
rows_twice c rs room h =
    columns_are (put_routes c 0 rs)
    (field_twice (λ r. r.router) rs c.router (omega arith))
    (field_twice (λ r. r.asn) rs c.asn (omega arith))
    (field_twice (λ r. r.preference) rs c.preference (omega arith))
    (field_twice (λ r. r.path) rs c.path (omega arith))
    (field_twice (λ r. r.origin) rs c.origin (omega arith))
    (field_twice (λ r. r.mark) rs c.mark (omega arith))
    (field_twice (λ r. r.med) rs c.med (omega arith))
    (field_twice (λ r. r.nid) rs c.nid (omega arith))
    (field_twice (λ r. r.peer) rs c.peer (omega arith))

module _ {s : Snapshot} {t : Tables} (valid : Valid s) (room : Room t) where
  -- so tables that it was filled into hold it
  pub filled_held : Held (counts_of s) (filled s t) s
  filled_held =
      let n = count_range (length s.ids) valid.count in
      let ps = valid.few_prefixes in
      let rs = valid.few_routes in
      let all = length_all s.prefixes in (
        refl,
        tables_are (filled s t)
            (sets_twice t.ids s.ids (omega arith))
            (distances_twice s t.distances)
            (field_twice (λ p. p.address) s.prefixes t.address (omega arith))
            (field_twice (λ p. p.bits) s.prefixes t.bits (omega arith))
            (field_twice (λ p. length p.routes) s.prefixes t.routes (omega arith))
            (rows_twice t.rows (all_routes s.prefixes) room.prefixes.rows (omega arith)),
      )

-- ---- and each is as long as before

stored_room : {n : ℕ} (xs vs : List ℕ) → n ≤ length xs → n ≤ length (sets xs 0 vs)
stored_room xs vs h = rw length-sets h

rows_room : (c : Columns) (rs : List Route) → Wide most_routes c → Wide most_routes (put_routes c 0 rs)
rows_room c rs room = record {
  router = stored_room c.router (map (λ r. r.router) rs) room.router;
  asn = stored_room c.asn (map (λ r. r.asn) rs) room.asn;
  preference = stored_room c.preference (map (λ r. r.preference) rs) room.preference;
  path = stored_room c.path (map (λ r. r.path) rs) room.path;
  origin = stored_room c.origin (map (λ r. r.origin) rs) room.origin;
  mark = stored_room c.mark (map (λ r. r.mark) rs) room.mark;
  med = stored_room c.med (map (λ r. r.med) rs) room.med;
  nid = stored_room c.nid (map (λ r. r.nid) rs) room.nid;
  peer = stored_room c.peer (map (λ r. r.peer) rs) room.peer;
}

pub filled_room : (s : Snapshot) {t : Tables} → Room t → Room (filled s t)
filled_room s {t} room = record {
  ids = stored_room t.ids s.ids room.ids;
  distances = rw (table_length (length t.distances) (λ k. cond (used (length s.ids) k) (distance s (k / stride) (k % stride)) (get_or t.distances k 0))) room.distances;
  prefixes = record {
    address = stored_room t.address (map (λ p. p.address) s.prefixes) room.prefixes.address;
    bits = stored_room t.bits (map (λ p. p.bits) s.prefixes) room.prefixes.bits;
    routes = stored_room t.routes (map (λ p. length p.routes) s.prefixes) room.prefixes.routes;
    rows = rows_room t.rows (all_routes s.prefixes) room.prefixes.rows;
  };
}
