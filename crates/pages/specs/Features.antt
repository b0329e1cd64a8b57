-- 01, "Commands": the data of feature 13h.
use Rattle.std.specs.Prelude.{◌≡◌, List, [], ◌∷◌, ◌++◌, ℕ, ◌+◌, ◌-◌, ◌^◌, ◌≤◌, ◌<◌, length, replicate}
use Rattle.std.specs.Int.Bits.{bit_and}
use Rattle.octets.specs.declared.Place.{Place}
use Rattle.octets.specs.Octets.{bytes_of, part, AllBytes}
use Rattle.octets.specs.Pages.{Field, span, fields_at, read_at, place}
use Rattle.record.specs.declared.Thresholds.{Thresholds}
use Rattle.record.specs.declared.Config.{Config}
use Rattle.record.specs.Parts.{config_of}
use Rattle.record.specs.Event.{bits_of, event_mask, events_in}

-- "512 data bytes"
abbrev pub feature_size : ℕ
feature_size = 512

-- ---- where each number lies: "512 data bytes hold ENEV 1:0, reads threshold 39:32, writes 47:40, time 55:48"
abbrev pub config_enabled : Place
config_enabled = span 0 2

abbrev pub config_reads : Place
config_reads = span 32 8

abbrev pub config_writes : Place
config_writes = span 40 8

abbrev pub config_time : Place
config_time = span 48 8

abbrev pub config_places : List Place
config_places = config_enabled ∷ config_reads ∷ config_writes ∷ config_time ∷ []

-- ---- the page made, and read

abbrev pub config_values : Config → List ℕ
config_values c = bits_of c.enabled ∷ c.thresholds.reads ∷ c.thresholds.writes ∷ c.thresholds.time ∷ []

abbrev pub config_fields : Config → List Field
config_fields c = fields_at config_places (config_values c)

-- "the rest zero when returned"
unfoldable pub config_page : Config → List ℕ
config_page c = place feature_size (config_fields c)

-- what the data says: "ENEV (masked with C007h) and the thresholds"
abbrev pub config_in : List ℕ → Config
config_in bytes =
    config_of (events_in (read_at bytes 0 config_enabled)) (read_at bytes 0 config_reads) (read_at bytes 0 config_writes) (read_at bytes 0 config_time)

-- ---- from the data in of Set Features to the data out of Get Features, byte by byte

-- the three thresholds together: bytes 55:32
abbrev pub config_thresholds : Place
config_thresholds = span 32 24

-- "ENEV (masked with C007h)", the bytes of the thresholds as they went in, and "the rest zero when returned"
unfoldable pub handed_back : List ℕ → List ℕ
handed_back given =
    bytes_of config_enabled.width (bit_and (read_at given 0 config_enabled) event_mask)
    ++ replicate (config_thresholds.at - config_enabled.width) 0
    ++ part given config_thresholds.at config_thresholds.width
    ++ replicate (feature_size - (config_thresholds.at + config_thresholds.width)) 0

-- that this is the page of what the data says; proved as `data_back` in proofs/Back.antt
abbrev pub DataBack : Type 0
DataBack = (given : List ℕ) → AllBytes given → feature_size ≤ length given → config_page (config_in given) ≡ handed_back given

-- "three 64-bit thresholds": those of every record that code holds
pub record Words (t : Thresholds) : Type 0 where
  pub reads : t.reads < 2 ^ 64
  pub writes : t.writes < 2 ^ 64
  pub time : t.time < 2 ^ 64
