-- 01, "Commands": what a command's 64 bytes say.
use Rattle.std.specs.Prelude.{Bool, List, ℕ, suc, ◌+◌, ◌*◌, ◌-◌, ◌/◌, ◌%◌, ◌^◌, eqb, length, if◌then◌else◌}
use Rattle.octets.specs.Octets.{padded}
use Rattle.octets.specs.Numbers.{number_at}
use Rattle.record.specs.declared.Window.TheVariants.{D}
use Rattle.record.specs.Windows.{window_no}
use Rattle.rules.specs.declared.Cause.{Cause}
use Rattle.rules.specs.declared.Cause.TheVariants.{SelectD, SelectN}
use Rattle.commands.specs.declared.Command.{Command}

-- "command not of 64 bytes"
abbrev pub command_size : ℕ
command_size = 64

-- a dword's bytes
abbrev pub dword_size : ℕ
dword_size = 4

-- dword k of a command
abbrev pub dword_at : List ℕ → ℕ → ℕ
dword_at bytes k = number_at bytes (dword_size * k) dword_size

-- of 64 bytes, the dwords that are looked at: "Reserved bits are ignored. NSID isn't read."
abbrev pub dwords_of : Bool → List ℕ → Command
dwords_of whole bytes =
    record {
      whole = whole;
      cdw0 = dword_at bytes 0;
      cdw10 = dword_at bytes 10;
      cdw11 = dword_at bytes 11;
      cdw12 = dword_at bytes 12;
      cdw13 = dword_at bytes 13;
    }

-- the command that bytes say; one of a length other than 64 is told apart, and refused before any field is looked at: it is read
-- as if cut or filled up with zeros
unfoldable pub command_in : List ℕ → Command
command_in bytes = dwords_of (eqb (length bytes) command_size) (padded bytes 0 command_size)

-- bits hi:lo of a dword
abbrev pub bits : ℕ → ℕ → ℕ → ℕ
bits hi lo x = x / 2 ^ lo % 2 ^ suc (hi - lo)

abbrev pub opcode : Command → ℕ
opcode c = bits 7 0 c.cdw0

-- ---- "Features: FID in CDW10 7:0; Save in CDW10 bit 31 (Set); Select in CDW10 10:8 (Get). CDW11 15:0 is the set."

-- "FID", "CNS" and "page" are all CDW10 7:0
abbrev pub chosen : Command → ℕ
chosen c = bits 7 0 c.cdw10

abbrev pub save : Command → Bool
save c = eqb (bits 31 31 c.cdw10) 1

abbrev pub select : Command → ℕ
select c = bits 10 8 c.cdw10

abbrev pub feature_set : Command → ℕ
feature_set c = bits 15 0 c.cdw11

-- "13h: CDW12 bit 0 is enable"
abbrev pub enable : Command → Bool
enable c = eqb (bits 0 0 c.cdw12) 1

-- "14h: CDW12 2:0 is 1 (D) or 2 (N)."
abbrev pub window_value : Command → ℕ
window_value c = bits 2 0 c.cdw12

abbrev pub cause_by : Bool → Cause
cause_by d = if d then SelectD else SelectN

abbrev pub selects_d : Command → Bool
selects_d c = eqb (window_value c) (window_no D)

abbrev pub window_cause : Command → Cause
window_cause c = cause_by (selects_d c)

-- ---- "Log: CDW10 7:0 page, bit 15 Retain, 31:16 low count; CDW11 15:0 high count, 31:16 set for 0Ah; CDW12 and CDW13 low
-- and high byte offset. Dwords moved are count + 1."

abbrev pub retain : Command → Bool
retain c = eqb (bits 15 15 c.cdw10) 1

abbrev pub dwords : Command → ℕ
dwords c = bits 31 16 c.cdw10 + 2 ^ 16 * bits 15 0 c.cdw11 + 1

abbrev pub log_set : Command → ℕ
log_set c = bits 31 16 c.cdw11

abbrev pub offset : Command → ℕ
offset c = c.cdw12 + 2 ^ 32 * c.cdw13

-- "Identify 04h": "sets with identifier at or above CDW11 15:0"
abbrev pub asked : Command → ℕ
asked c = bits 15 0 c.cdw11

-- ---- 02, "Wake the host"

-- the command's own identifier, by which its completion is known: bytes 3:2
abbrev pub identifier : Command → ℕ
identifier c = bits 31 16 c.cdw0

-- "feature 0Bh bit 12 for Get and Set Features": CDW11 bit 12 of Set
abbrev pub turns_on : Command → Bool
turns_on c = eqb (bits 12 12 c.cdw11) 1
