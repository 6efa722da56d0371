-- The heads of the code, as plain heads.
use Rattle.std.specs.Prelude.{ℕ, ◌<◌, length, List, [], ◌∷◌, map, Option, Some, None, slice_get}
use Rattle.safl_typing.specs.declared.heads.Slot as code_slot
use Rattle.safl_typing.specs.declared.heads.Head as code_head
use Rattle.safl_typing.specs.declared.heads.Callee as code_callee
use Rattle.safl_typing.specs.declared.heads.Callee.TheVariants as codes
use Rattle.safl_typing.specs.Heads.{Slot, Head, Known, Numbered, Callee, Member, Above, Unknown}

abbrev pub shown_slot : code_slot.Slot → Slot
shown_slot s = record { name = s.name; width = s.width }

abbrev pub shown_slots : List code_slot.Slot → List Slot
shown_slots ss = map shown_slot ss

abbrev pub shown_head : code_head.Head → Head
shown_head h = record { name = h.name; params = shown_slots h.params.items; width = h.width; unit = h.unit }

abbrev pub shown_heads : List code_head.Head → List Head
shown_heads [] = []
shown_heads (h ∷ hs) = shown_head h ∷ shown_heads hs

abbrev pub known : List code_head.Head → ℕ → Known
known hs unit = record { heads = shown_heads hs; unit = unit }

-- a head with its number
abbrev pub with_number : ℕ → Option code_head.Head → Option Numbered
with_number n None = None
with_number n (Some h) = Some (record { number = n; head = shown_head h })

abbrev pub numbered : List code_head.Head → Option ℕ → Option Numbered
numbered hs None = None
numbered hs (Some n) = with_number n (slice_get hs n)

abbrev pub a_member : Option Numbered → Callee
a_member None = Unknown
a_member (Some m) = Member m.number m.head

abbrev pub an_earlier : Option Numbered → Callee
an_earlier None = Unknown
an_earlier (Some m) = Above m.number m.head

abbrev pub shown_callee : List code_head.Head → code_callee.Callee → Callee
shown_callee hs (codes.Member n) = a_member (numbered hs (Some n))
shown_callee hs (codes.Above n) = an_earlier (numbered hs (Some n))
shown_callee hs codes.Unknown = Unknown

-- 1 if a call of this function is a call site, else 0
abbrev pub site_of : code_callee.Callee → ℕ
site_of (codes.Member n) = 0
site_of (codes.Above n) = 1
site_of codes.Unknown = 1

-- the called function is one of these
abbrev pub IsOneOf : List code_head.Head → code_callee.Callee → Type 0
IsOneOf hs (codes.Member n) = n < length hs
IsOneOf hs (codes.Above n) = n < length hs
IsOneOf hs codes.Unknown = Unit {0}
