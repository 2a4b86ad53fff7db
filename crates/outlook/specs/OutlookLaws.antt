-- What the code decides on lent tables is early and late of the snapshot that they hold.
use Rattle.std.specs.Prelude.{ℕ, ◌+◌, ◌-◌, ◌≤◌, ◌<◌, ◌≡◌, refl, Bool, true, false, ◌||◌, not, List, ◌++◌, map, length, get_or, drop, T, eqb, ltb, Result, Ok, Err}
use Rattle.std.proofs.Common.{arith, sym, ap, ap₂, subst, ◌∙◌, inl, inr, ⊎_elim, true≢false, ltb-false, eqb-true, get_or-take}
use Rattle.std.proofs.Math.Path.{fun_ext}
use Rattle.std.proofs.lemmas.List.{length-map}
use Rattle.std.proofs.Math.ListN.{get_or-eq_default}
use Rattle.std.proofs.lemmas.List.Edits.{sets}
use Rattle.word.specs.Word.{word, differs}
use Rattle.snapshot.specs.declared.Counts.{Counts}
use Rattle.snapshot.specs.Format.{Snapshot, Valid}
use Rattle.snapshot.specs.Limits.{most_routers, most_routes}
use Rattle.snapshot.specs.Ranges.{any_of, none}
use Rattle.snapshot.proofs.RangesLaws.{none_any}
use Rattle.snapshot.proofs.TablesLaws.{has_room}
use Rattle.snapshot.specs.Tables.{Tables, short, Room, Held, routes_of, mesh}
use Rattle.snapshot.proofs.ChecksLaws.{routers_few}
use Rattle.tables.specs.Theorems.{held_ids, held_distance, held_count, held_fits, held_column, routes_few, absent_zero, sound}
use Rattle.tables.specs.Judging.{Holding, Verdicts, numbered}
use Rattle.tables.specs.Theorems as Judged
use Rattle.refusal.specs.declared.Refusal.{Refusal}
use Rattle.refusal.specs.declared.Refused.{Refused}
use Rattle.refusal.specs.Numbers.{refuses}
use Rattle.model.specs.Rows.{keep, span, table, column, start}
use Rattle.model.specs.Decision.{Route, Mesh, metric, choice}
use Rattle.model.specs.Stability.{Sound, Between, available}
use Rattle.model.specs.Contest.{early, late, at_place, holding, earliest, latest, contest}
use Rattle.model.specs.Columns.{Columns, columns, lent_mesh, Placed}
use Rattle.model.proofs.MeshLaws.{Alike, sound_alike, between_alike}
use Rattle.model.proofs.NumberLaws.{le_or_lt}
use Rattle.model.proofs.RowLaws.{by, table_length}
use Rattle.model.proofs.ColumnLaws.{sets_front}
use Rattle.model.proofs.Theorems.{forecast, pair_determined}
use Rattle.decide.specs.declared.Differing.{Differing}
use Rattle.decide.specs.Decide.{differing_of, Decided}
use Rattle.rows.specs.Lent.{cut}
use Rattle.outlook.specs.Outlook.{Forecasts, room, no_snapshot, given, said, short_of, whole, Shown, Part}

-- ---- room

-- one of two tests behind another
second_of : (a b c : Bool) → (b || c) ≡ true → ((a || b) || c) ≡ true
second_of true b c e = refl
second_of false b c e = e

first_of : (a b c : Bool) → T a → ((a || b) || c) ≡ true
first_of true b c h = refl
first_of false b c h = absurd h

none_of : (a b c : Bool) → T (not a) → (b || c) ≡ false → ((a || b) || c) ≡ false
none_of true b c h e = absurd h
none_of false b c h e = e

each_of : (a b c : Bool) → ((a || b) || c) ≡ false → (a ≡ false) × (b ≡ false) × (c ≡ false)
each_of true b c e = absurd (true≢false e)
each_of false true c e = absurd (true≢false e)
each_of false false c e = (refl, refl, e)

module _ (t : Tables) (early late : List ℕ) where
  abbrev short_early : Bool
  short_early = ltb (length early) most_routers

  abbrev short_late : Bool
  short_late = ltb (length late) most_routers

  -- an area is short
  pub area_short : (short_early || short_late) ≡ true → any_of (short_of t early late) ≡ true
  area_short e = second_of (any_of (short t)) short_early short_late e

  -- a table is
  table_short : T (any_of (short t)) → any_of (short_of t early late) ≡ true
  table_short h = first_of (any_of (short t)) short_early short_late h

  -- none is
  pub none_short : (short_early || short_late) ≡ false → T (none (short t)) → any_of (short_of t early late) ≡ false
  none_short e h = none_of (any_of (short t)) short_early short_late h e

  module _ (enough : any_of (short_of t early late) ≡ false) where
    pub roomy : Room t
    roomy = has_room t (none_any (short t) (each_of (any_of (short t)) short_early short_late enough).0)

    pub early_room : most_routers ≤ length early
    early_room = ltb-false _ _ (each_of (any_of (short t)) short_early short_late enough).1

    pub late_room : most_routers ≤ length late
    late_room = ltb-false _ _ (each_of (any_of (short t)) short_early short_late enough).2

-- what examining refuses is refused, at place 0
pub refused_by : (counts : Counts) (t : Tables) (p : ℕ) (early late : List ℕ) {v : Result Unit Refusal} {w : Result Unit Refused} {r : Refused}
    → Judged.Placed v w → w ≡ Err r → (short_early t early late || short_late t early late) ≡ false → Verdicts counts t (numbered v)
    → Forecasts counts t p early late (refuses r.refusal r.place) early late
refused_by counts t p earlies lates placed e long judged =
    let (q, same, at) = Judged.placed_err placed e in
    subst (λ (r : Refused). Forecasts counts t p earlies lates (refuses r.refusal r.place) earlies lates) (sym at) (⊎_elim
    (λ k. subst (λ (q : Refusal). Forecasts counts t p earlies lates (refuses q 0) earlies lates) (sym k.0) (room (table_short t earlies lates k.1)))
    (λ k. subst (λ (q : Refusal). Forecasts counts t p earlies lates (refuses q 0) earlies lates) (sym k.0)
    (no_snapshot (none_short t earlies lates long k.1) (λ snapshot valid held. k.2 (record { snapshot = snapshot; valid = valid; held = held }))))
    (Judged.verdict_refused judged q (ap numbered same)))

-- ---- the forecast of lent columns

-- the columns of a prefix's routes, with MEDs as they stand
abbrev pub columns_of : List Route → Columns
columns_of rs = columns
    (map (λ r. r.router) rs) (map (λ r. r.asn) rs) (map (λ r. r.preference) rs) (map (λ r. r.path) rs)
    (map (λ r. r.origin) rs) (map (λ r. r.med) rs) (map (λ r. r.nid) rs) (map (λ r. r.peer) rs)

-- a prefix's part of each column
abbrev pub parts : List ℕ → ℕ → Columns → Columns
parts routes p c = cut (start routes p) (column routes p) c

module _ {counts : Counts} {t : Tables} {s : Snapshot} (enough : Room t) (valid : Valid s) (held : Held counts t s) (p : ℕ) (below : p < length s.prefixes) where
  -- what the code decides the prefix on
  abbrev pub lent : Mesh
  lent = lent_mesh counts.routers t.ids t.distances (columns_of (routes_of s p))

  -- the prefix's part of each column holds its routes
  pub parts_are : parts t.routes p (whole t) ≡ columns_of (routes_of s p)
  parts_are =
      let b : p < counts.prefixes = omega (arith, ap (λ (c : Counts). c.prefixes) held.0) in
      let k = held_count enough valid held p b in
      let room = enough.prefixes.rows in
      rw (
        k,
        held_column enough valid held p b (λ r. r.router) t.rows.router (λ q. refl) room.router,
        held_column enough valid held p b (λ r. r.asn) t.rows.asn (λ q. refl) room.asn,
        held_column enough valid held p b (λ r. r.preference) t.rows.preference (λ q. refl) room.preference,
        held_column enough valid held p b (λ r. r.path) t.rows.path (λ q. refl) room.path,
        held_column enough valid held p b (λ r. r.origin) t.rows.origin (λ q. refl) room.origin,
        held_column enough valid held p b (λ r. r.med) t.rows.med (λ q. refl) room.med,
        held_column enough valid held p b (λ r. r.nid) t.rows.nid (λ q. refl) room.nid,
        held_column enough valid held p b (λ r. r.peer) t.rows.peer (λ q. refl) room.peer,
      )

  -- a MED that is absent is stored as 0, so it counts as it stands
  same_metric : (q : ℕ) → metric lent q ≡ metric (mesh s p) q
  same_metric q = by (eqb ((mesh s p).mark q) 0)
      (λ e. elim (le_or_lt (length (routes_of s p)) q) [
        | inl l ↦ (let z = get_or-eq_default (map (λ r. r.med) (routes_of s p)) 0 {n = q} (omega (arith, length-map (routes_of s p) (λ r. r.med))) in rw e z)
        | inr l ↦ rw e (absent_zero valid p below q l (eqb-true ((mesh s p).mark q) 0 e))
      ])
      (λ e. rw e)

  pub lent_alike : Alike lent (mesh s p)
  lent_alike = record {
    routers = n;
    rows = length-map (routes_of s p) (λ r. r.router);
    router = refl;
    asn = refl;
    preference = refl;
    path = refl;
    origin = refl;
    metric = fun_ext same_metric;
    nid = refl;
    peer = refl;
    id = λ r l. sym (get_or-take counts.routers t.ids r 0 l) ∙ ap (λ (ids : List ℕ). get_or ids r 0) (held_ids enough valid held);
    distance = λ a b h k. held_distance enough valid held a b h k;
  }
    where
      n : counts.routers ≡ length s.ids
      n = ap (λ (c : Counts). c.routers) held.0

  lent_sound : Sound lent
  lent_sound = sound_alike lent (mesh s p) lent_alike (sound valid p below)

  -- early and late of what the code decides on are early and late of that prefix of the snapshot
  pub lent_between : Between (mesh s p) (early lent) (late lent)
  lent_between = between_alike lent (mesh s p) lent_alike lent_sound (early lent) (late lent) (forecast lent lent_sound)

  -- and what it needs to know of that
  pub lent_placed : Placed counts.routers t.ids t.distances (columns_of (routes_of s p))
  lent_placed = record {
    fits = record {
      few = few;
      rows = omega (arith, one (λ r. r.router), routes_few valid p below);
      asn = alike (λ r. r.asn);
      preference = alike (λ r. r.preference);
      path = alike (λ r. r.path);
      origin = alike (λ r. r.origin);
      med = alike (λ r. r.med);
      nid = alike (λ r. r.nid);
      peer = alike (λ r. r.peer);
      owned = λ q l. omega (arith, n, (sound valid p below).owned q (omega (arith, one (λ r. r.router))));
      apart = lent_sound.peers;
    };
    ids_long = omega (arith, few, enough.ids);
    distances_long = enough.distances;
    sound = lent_sound;
  }
    where
      n : counts.routers ≡ length s.ids
      n = ap (λ (c : Counts). c.routers) held.0

      few : counts.routers ≤ most_routers
      few = omega (arith, n, routers_few valid)

      one : (f : Route → ℕ) → length (map f (routes_of s p)) ≡ length (routes_of s p)
      one f = length-map (routes_of s p) f

      alike : (f : Route → ℕ) → length (map f (routes_of s p)) ≡ length (map (λ r. r.router) (routes_of s p))
      alike f = one f ∙ sym (one (λ r. r.router))

-- ---- rows at the start of two areas

module _ {n n' : ℕ} (e : n ≡ n') (ids distances : List ℕ) (c : Columns) where
  pub shown_again : {d : Differing} {rows lasts early₀ early₁ late₀ late₁ : List ℕ}
      → n ≤ length early₀ → n ≤ length late₀ → early₁ ≡ rows ++ drop n early₀ → late₁ ≡ lasts ++ drop n late₀
      → Decided (lent_mesh n' ids distances c) d rows lasts → Shown (lent_mesh n ids distances c) d early₀ early₁ late₀ late₁
  shown_again {d} {rows} {lasts} {early₀} {late₀} re rl ee el b =
      record {
        early_area = ee ∙ ap (λ (x : List ℕ). x ++ drop n early₀) there.early_rows ∙ front early₀ (early M) (size (earliest (contest M))) re;
        late_area = el ∙ ap (λ (x : List ℕ). x ++ drop n late₀) there.late_rows ∙ front late₀ (late M) (size (latest (contest M))) rl;
        differs = there.differs;
      }
    where
      M : Mesh
      M = lent_mesh n ids distances c

      there : Decided M d rows lasts
      there = subst (λ (z : ℕ). Decided (lent_mesh z ids distances c) d rows lasts) (sym e) b

      size : (x : List ℕ) → length (holding M x) ≡ n
      size x = table_length n (λ r. choice M r (available M (table n (at_place M x)) r))

      front : (area x : List ℕ) → length x ≡ n → n ≤ length area → x ++ drop n area ≡ sets area 0 x
      front area x z fits = ap (λ (m : ℕ). x ++ drop m area) (sym z) ∙ sym (sets_front area x (omega arith))

-- what is shown of equal ids, distances and columns
pub shown_same : (n at many : ℕ) {ids ids' distances distances' : List ℕ} {c c' : Columns} {d : Differing} {early₀ early₁ late₀ late₁ : List ℕ}
    → ids ≡ ids' → distances ≡ distances' → c ≡ c'
    → Shown (lent_mesh n ids distances (cut at many c)) d early₀ early₁ late₀ late₁
    → Shown (lent_mesh n ids' distances' (cut at many c')) d early₀ early₁ late₀ late₁
shown_same n at many {ids} {ids'} {distances} {distances'} {c} {c'} {d} {early₀} {early₁} {late₀} {late₁} e f g h =
    subst (λ (x : Columns). Shown (lent_mesh n ids' distances' (cut at many x)) d early₀ early₁ late₀ late₁) g
    (subst (λ (x : List ℕ). Shown (lent_mesh n ids' x (cut at many c)) d early₀ early₁ late₀ late₁) f
    (subst (λ (x : List ℕ). Shown (lent_mesh n x distances (cut at many c)) d early₀ early₁ late₀ late₁) e h))

-- ---- the whole call

module _ (counts : Counts) (t : Tables) (p : ℕ) (roomy : Room t) (holding : Holding counts t) (below : p < counts.prefixes) where
  abbrev s : Snapshot
  s = holding.snapshot

  pub n_is : counts.routers ≡ length s.ids
  n_is = ap (λ (c : Counts). c.routers) holding.held.0

  pub there : p < length s.prefixes
  there = omega (arith, ap (λ (c : Counts). c.prefixes) holding.held.0)

  few : counts.routers ≤ most_routers
  few = omega (arith, n_is, routers_few holding.valid)

  pub same_parts : parts t.routes p (whole t) ≡ columns_of (routes_of s p)
  same_parts = parts_are roomy holding.valid holding.held p there

  -- where the code finds the prefix's rows
  pub inside : p < length t.routes
  inside = omega (arith, there, holding.valid.few_prefixes, roomy.prefixes.routes)

  pub fits_in : start t.routes p + column t.routes p ≤ most_routes
  fits_in = omega (arith, held_count roomy holding.valid holding.held p below, held_fits roomy holding.valid holding.held p below)

  pub pair : (early (lent roomy holding.valid holding.held p there) ≡ early (mesh s p)) × (late (lent roomy holding.valid holding.held p there) ≡ late (mesh s p))
  pair =
      let M = mesh s p in
      let L = lent roomy holding.valid holding.held p there in
      let known = sound holding.valid p there in
      pair_determined M known (early L) (late L) (early M) (late M) (lent_between roomy holding.valid holding.held p there) (forecast M known)

  module _ {first end : ℕ} (f : first ≡ start t.routes p) (e : end ≡ first + column t.routes p) where
    cut_is : cut first (end - first) (whole t) ≡ columns_of (routes_of s p)
    cut_is =
        ap₂ (λ (a k : ℕ). cut a k (whole t)) f (let k : end - first ≡ column t.routes p = omega arith in k)
        ∙ same_parts

    -- what the code needs to know of them
    pub part_of : (early₀ late₀ : List ℕ) → most_routers ≤ length early₀ → most_routers ≤ length late₀ → Part counts.routers first end t.ids t.distances (whole t) early₀ late₀
    part_of early₀ late₀ re rl = record {
      ordered = omega arith;
      fits = omega (arith, fits_in);
      router = roomy.prefixes.rows.router;
      asn = roomy.prefixes.rows.asn;
      preference = roomy.prefixes.rows.preference;
      path = roomy.prefixes.rows.path;
      origin = roomy.prefixes.rows.origin;
      med = roomy.prefixes.rows.med;
      nid = roomy.prefixes.rows.nid;
      peer = roomy.prefixes.rows.peer;
      placed = subst (Placed counts.routers t.ids t.distances) (sym cut_is) (lent_placed roomy holding.valid holding.held p there);
      earlies = omega (arith, few);
      lates = omega (arith, few);
    }

    -- what the code shows is the forecast
    pub shown_given : (early₀ late₀ : List ℕ) → any_of (short_of t early₀ late₀) ≡ false → {d : Differing} {early₁ late₁ : List ℕ}
        → Shown (lent_mesh counts.routers t.ids t.distances (cut first (end - first) (whole t))) d early₀ early₁ late₀ late₁
        → Forecasts counts t p early₀ late₀ (said (Ok d)) early₁ late₁
    shown_given early₀ late₀ enough {d} {early₁} {late₁} h =
        subst (λ (x : Differing). Forecasts counts t p early₀ late₀ (said (Ok x)) early₁ late₁) (sym answer)
        (subst (λ (x : List ℕ). Forecasts counts t p early₀ late₀ (said (Ok (differing_of (mesh s p) (early L) (late L)))) x late₁) (sym k.early_area)
        (subst (λ (x : List ℕ). Forecasts counts t p early₀ late₀ (said (Ok (differing_of (mesh s p) (early L) (late L)))) (sets early₀ 0 (early L)) x) (sym k.late_area)
        (given enough s holding.valid holding.held there (early L) (late L) (lent_between roomy holding.valid holding.held p there))))
      where
        L : Mesh
        L = lent roomy holding.valid holding.held p there

        k : Shown L d early₀ early₁ late₀ late₁
        k = subst (λ (c : Columns). Shown (lent_mesh counts.routers t.ids t.distances c) d early₀ early₁ late₀ late₁) cut_is h

        answer : d ≡ differing_of (mesh s p) (early L) (late L)
        answer = k.differs ∙ ap (λ (n : ℕ). counted (keep (differs (early L) (late L)) (span 0 n))) n_is
          where
            counted : List ℕ → Differing
            counted rs = record { word = word rs; number = length rs }
