-- The limits of document 01, each a named number. crates/snapshot/src/lib.rt has the same names for the code.
use Rattle.std.specs.Prelude.{ℕ}

-- the most routers of a snapshot
abbrev pub most_routers : ℕ
most_routers = 64

-- the entries of the table of distances from one router to the next: the distance from a to b stands at a times this, plus b
abbrev pub stride : ℕ
stride = most_routers

-- the entries that the table of distances has room for
abbrev pub room_distances : ℕ
room_distances = 4096

-- the farthest distance
abbrev pub farthest : ℕ
farthest = 16777215

-- the most prefixes of a snapshot
abbrev pub most_prefixes : ℕ
most_prefixes = 64

-- the longest prefix length
abbrev pub most_bits : ℕ
most_bits = 32

-- the most routes of a prefix
abbrev pub most_in_prefix : ℕ
most_in_prefix = 256

-- the most routes of a snapshot
abbrev pub most_routes : ℕ
most_routes = 1024

-- the AS that stands in for many neighbours (RFC 6793)
abbrev pub stand_in_asn : ℕ
stand_in_asn = 23456

-- the last AS of two bytes, which no neighbour has
abbrev pub last_two_byte_asn : ℕ
last_two_byte_asn = 65535

-- the highest neighbour AS
abbrev pub last_asn : ℕ
last_asn = 4294967294

-- the longest path
abbrev pub longest_path : ℕ
longest_path = 65535

-- the highest origin, incomplete
abbrev pub last_origin : ℕ
last_origin = 2

-- the bytes of the longest snapshot
abbrev pub longest : ℕ
longest = 55623
