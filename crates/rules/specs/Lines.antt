-- Change requests, Ask 5: the walk of a line or of a continue, visit by visit, in whole numbers without limit, and what its visits draw.
-- Nothing here looks at the picture. Codes, fields and offsets are the manual's (000), 4.4.10 to 4.4.12 and 6.2.12; where Ask 5 differs: docs/CHIP.md.
use Rattle.std.specs.Prelude.{Bool, true, false, cond, not, ◌&&◌, ◌||◌, List, [], ◌∷◌, ℕ, zero, suc, ◌+◌, ◌-◌, ◌/◌, ◌%◌, ◌^◌, eqb, leb, ltb}
use Rattle.raster.specs.Pixel.{bit}
use Rattle.span.specs.Spans.{Span, span}
use Rattle.card.specs.Registers.{error_bit, is_set, ◌is◌}
use Rattle.card.specs.declared.Card.{Card}
use Rattle.card.specs.declared.Line.{Line}
use Rattle.card.specs.declared.Write.{Write}
use Rattle.card.specs.declared.Register.TheVariants.{Continue}
use Rattle.rules.specs.Modes.{mode_of, is_line, is_opaque_line, foreground, background, fill_first, frame_span, register_spans, register_of}
use Rattle.rules.specs.declared.Whole.{Whole}
use Rattle.rules.specs.declared.Visit.{Visit}

-- ---- Whole numbers. One is `more` less `less`, what was added and what was taken away: it can lie below 0, and nothing is ever cut off.

abbrev pub plus : Whole → Whole → Whole
plus x y = record { more = x.more + y.more; less = x.less + y.less }

abbrev pub minus : Whole → Whole → Whole
minus x y = record { more = x.more + y.less; less = x.less + y.more }

abbrev pub natural : ℕ → Whole
natural n = record { more = n; less = 0 }

abbrev pub below_zero : Whole → Bool
below_zero x = ltb x.more x.less

-- from 0 up to, and not, n
abbrev pub within : ℕ → Whole → Bool
within n x = leb x.less x.more && ltb x.more (x.less + n)

-- from -32,768 to 32,767
abbrev pub in_sixteen_bits : Whole → Bool
in_sixteen_bits x = leb x.less (x.more + 2 ^ 15) && ltb x.more (x.less + 2 ^ 15)

-- w bits of a word, from bit k on, as a signed number
abbrev pub signed : (w k : ℕ) → ℕ → Whole
signed w k n =
    let f = n / 2 ^ k % 2 ^ w in
    record { more = f; less = cond (ltb f (2 ^ (w - 1))) 0 (2 ^ w) }

-- and the 32 bits that hold one
abbrev pub word : Whole → ℕ
word x = (x.more + (2 ^ 32 - x.less % 2 ^ 32)) % 2 ^ 32

-- ---- The walk. A visit has a place, which is an address, and an error.

-- after each visit: with an error below zero, add address increment 1 and error increment 1, else add address increment 2 and take away
-- error increment 2. Of Bresenham 1 and 2, the words a and b, bits 31:16 are the address increment, bits 15:0 the error increment
unfoldable pub stepped : (a b : ℕ) → Visit → Visit
stepped a b s =
    cond (below_zero s.error) (record { place = plus s.place (signed 16 16 a); error = plus s.error (signed 16 0 a) })
    (record { place = plus s.place (signed 16 16 b); error = minus s.error (signed 16 0 b) })

-- k visits, the first at s
unfoldable pub visits : (a b k : ℕ) → Visit → List Visit
visits a b zero s = []
visits a b (suc k) s = s ∷ visits a b k (stepped a b s)

-- what is left after k visits, the last one's step taken too
unfoldable pub walked : (a b k : ℕ) → Visit → Visit
walked a b zero s = s
walked a b (suc k) s = walked a b k (stepped a b s)

-- no visit at all
abbrev pub none : List Visit → Bool
none [] = true
none (s ∷ ss) = false

-- a visited place, drawn or not, lies outside a VRAM of n bytes
abbrev pub strays : ℕ → List Visit → Bool
strays n [] = false
strays n (s ∷ ss) = not (within n s.place) || strays n ss

-- an error lies outside signed 16 bits, at the start or after any step, the last too
abbrev pub wild : (a b : ℕ) → List Visit → Bool
wild a b [] = false
wild a b (s ∷ ss) = not (in_sixteen_bits s.error) || (not (in_sixteen_bits (stepped a b s).error) || wild a b ss)

-- ---- The walk of a write.

-- a frame write in a line mode, and a continue, walk; a write of space 2 or more is refused by 2 before that counts
unfoldable pub walks : Card → Write → Bool
walks c w = cond (eqb w.space 1) (register_of w is Continue) (is_line (mode_of c.registers.mode))

-- a line starts at its address, to which data bits 17:16 are added, with the initial error of Bresenham 3; a continue where the last stopped
unfoldable pub start : Card → Write → Visit
start c w =
    cond (eqb w.space 1) (record { place = signed 32 0 c.line.place; error = signed 32 0 c.line.error })
    (record { place = natural (fill_first w); error = signed (32 - error_bit) error_bit c.registers.bresenham3 })

-- length 0 means 16
abbrev pub line_length : ℕ → ℕ
line_length b = cond (eqb (b % 16) 0) 16 (b % 16)

-- a line has as many visits as bits 3:0 of Bresenham 3 say, a continue 16; before any accepted line it has none
unfoldable pub visit_count : Card → Write → ℕ
visit_count c w = cond (eqb w.space 1) (cond (is_set c.line.kept) 16 0) (line_length c.registers.bresenham3)

unfoldable pub visits_of : Card → Write → List Visit
visits_of c w = visits c.registers.bresenham1 c.registers.bresenham2 (visit_count c w) (start c w)

-- what an accepted one keeps for the next continue
unfoldable pub line_left : Card → Write → Line
line_left c w =
    let s = walked c.registers.bresenham1 c.registers.bresenham2 (visit_count c w) (start c w) in
    record { place = word s.place; error = word s.error; kept = 1 }

-- ---- What is drawn: one span of a single pixel for each visit.

-- the address of a place that is not below 0
abbrev pub address_of : Visit → ℕ
address_of s = s.place.more - s.place.less

-- visit i, at address p, draws by bit i of the data: an opaque line foreground or background, a transparent one foreground or nothing
abbrev pub dot : (opaque shown : Bool) → Card → Write → (i p : ℕ) → Span
dot opaque shown c w i p =
    span p 1 (λ j. shown && (opaque || bit w.«data» i)) (λ j. cond (bit w.«data» i) (foreground c p) (background c p))

-- the last visit draws nothing unless the cap bit is set
unfoldable pub dots : (opaque cap : Bool) → Card → Write → ℕ → List Visit → List Span
dots opaque cap c w i [] = []
dots opaque cap c w i (s ∷ ss) =
    dot opaque (cap || not (none ss)) c w i (address_of s) ∷ dots opaque cap c w (suc i) ss

-- the cap bit is mode bit 15
abbrev pub capped : ℕ → Bool
capped mode = bit mode 15

abbrev pub line_spans : Card → Write → List Span
line_spans c w =
    let mode = c.registers.mode in
    dots (is_opaque_line (mode_of mode)) (capped mode) c w 0 (visits_of c w)

-- ---- The spans of any write, in the order in which they are drawn. Those of a line or a continue mean something where its walk is accepted.

unfoldable pub spans_of : Card → Write → List Span
spans_of c w =
    cond (walks c w) (line_spans c w)
    (cond (eqb w.space 1) (register_spans (register_of w) c w) (frame_span (mode_of c.registers.mode) c w ∷ []))
