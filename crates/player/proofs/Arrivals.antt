-- A trace that arrives in chunks on the front of a VRAM, case by case, and however it is cut into chunks. Assumes nothing.
use mathlib.Core.Path.{◌≡◌, refl, ap, ap₂, sym, ◌∙◌}
use mathlib.Core.Bool.{Bool, true, false, cond}
use mathlib.Core.List.{List, [], ◌∷◌, ◌++◌, append-nil}
use Prim.Native.Nat.{ℕ, ◌-◌, ◌^◌, ◌≤◌}
use native.Mathlib.Omega.{arith}
use lib.Dec.{eqb, leb}
use Rattle.std.proofs.Common.{Some, None}
use Rattle.std.specs.Bool.{then_some}
use lib.ListN.{length, take, drop, length-append, length-drop}
use lib.Seq.{length-take-le, take_at, drop_at}
use borrow.Author.Tests.{le-leb, leb-true}
use Rattle.card.specs.Reset.{reset_card}
use Rattle.format.specs.Bytes.{word, word_at}
use Rattle.format.specs.Traces.{largest, good_header, is_trace, entry_count, check_number, check_number_up_to, check_part, check_part_up_to, check_length, check_length_up_to}
use Rattle.format.proofs.Inside.{word_inside}
use Rattle.format.proofs.Tested.{headed, formed, traced}
use Rattle.trace.specs.Run.{State}
use Rattle.line.specs.Serial.{new_reader, Standing, standing, state_of, chunk, chunks_up_to, joined, finished}
use Rattle.line.proofs.Joining.{two_chunks}
use Rattle.line.proofs.Units.{header_front, word_front}
use Rattle.line.proofs.Demands.{held_planes}
use Rattle.line.proofs.Accepted.{one_whole_run}
use Rattle.player.specs.declared.Played.{Played}
use Rattle.player.specs.Playing.{whole, played, pictured}
use Rattle.player.specs.Arriving.{length_of, fed, fed_all, before, closed}

-- ---- The length that a header says.

pub length_said : (h : List ℕ) → then_some (good_header h) (word_at h 8) ≡ length_of h
unfolding length_of
length_said h = go (good_header h) refl
  where
    go : (x : Bool) → good_header h ≡ x → then_some x (word_at h 8) ≡ cond x (Some (word h 8)) None
    go true e = ap Some (word_inside h 8 (omega (arith, (headed h e).header)))
    go false e = refl

-- ---- Two chunks fed, one after the other, are their bytes fed as one. For every reader, every card and every VRAM.

abbrev size : Standing → ℕ
size s = length s.picture

chunk_size : (bs : List ℕ) (s : Standing) → size (chunk bs s) ≡ size s
unfolding chunks_up_to
chunk_size bs s = (held_planes (bs ∷ []) s).size

-- as many bytes as are fed: n, or none
abbrev fits : ℕ → ℕ → ℕ
fits n k = cond (leb n k) n 0

fits_in : (n k : ℕ) → fits n k ≤ k
fits_in n k = go (leb n k) refl
  where
    go : (x : Bool) → leb n k ≡ x → cond x n 0 ≤ k
    go true e = leb-true _ _ e
    go false e = omega arith

module _ (xs ys : List ℕ) (s : Standing) (m : ℕ) (h : m ≤ size s) where
  abbrev start : Standing
  start = standing s.reader s.card (take m s.picture)

  abbrev past : List ℕ
  past = drop m s.picture

  fills : size (chunk xs start) ≡ m
  fills = chunk_size xs start ∙ length-take-le m s.picture h

  before_size : size (before m xs s) ≡ size s
  unfolding before
  before_size =
      length-append (chunk xs start).picture past
      ∙ omega (arith, fills, length-drop m s.picture, h)

  two_before : before m ys (before m xs s) ≡ before m (xs ++ ys) s
  unfolding before
  two_before =
      let t = chunk xs start in
      ap₂ (λ (u w : List ℕ). let e = chunk ys (standing t.reader t.card u) in standing e.reader e.card (e.picture ++ w))
      (take_at t.picture past m fills)
      (drop_at t.picture past m fills)
      ∙ ap (λ (e : Standing). standing e.reader e.card (e.picture ++ past)) (two_chunks largest xs ys start)

two_feeds : (n : ℕ) (xs ys : List ℕ) (s : Standing) → fed n ys (fed n xs s) ≡ fed n (xs ++ ys) s
unfolding fed
two_feeds n xs ys s =
    let m = fits n (size s) in
    let h = fits_in n (size s) in
    ap (λ (k : ℕ). before (fits n k) ys (before m xs s)) (before_size xs ys s m h) ∙ two_before xs ys s m h

-- any list of one or more
any_feeds : (n : ℕ) (bs : List ℕ) (rest : List (List ℕ)) (s : Standing) → fed_all n (bs ∷ rest) s ≡ fed n (joined (bs ∷ rest)) s
unfolding fed_all joined
any_feeds n bs [] s = ap (λ (xs : List ℕ). fed n xs s) (sym (append-nil bs))
any_feeds n bs (next ∷ rest) s = any_feeds n next rest (fed n bs s) ∙ two_feeds n bs (joined (next ∷ rest)) s

-- ---- A trace that arrives in any pieces, on a VRAM that is long enough for it, answers what replaying it from a file answers, and leaves the same VRAM.

module _ (v : List ℕ) (held : ℕ) (p : List ℕ) (trace : is_trace v ≡ true) (long : check_length v ≤ length p) where
  abbrev n : ℕ
  n = check_length v

  -- the header's 16 bytes say the length
  pub length_in_the_header : length_of (take 16 v) ≡ Some n
  unfolding length_of check_length_up_to
  length_in_the_header = let t = traced v trace in simp (trace, header_front v t.header ∙ t.good) (ap Some (word_front v 8 t.header (omega arith)))

  abbrev begun : List ℕ → Standing
  begun u = standing new_reader (reset_card held) u

  few : entry_count (check_part v) ≤ 2 ^ 32 - 1
  unfolding check_part_up_to
  few = let part : check_part v ≡ drop 16 v = simp trace in omega (arith, ap entry_count part, (formed _ (traced v trace).entries).few)

  runs : state_of (finished (chunk v (begun (take n p)))) ≡ whole v held p
  unfolding chunks_up_to joined
  runs = one_whole_run v (reset_card held) (take n p) v [] (append-nil v) (2 ^ 32 - 1) trace few

  abbrev answered : State → Played
  answered t = record { number = t.number; entries = t.applied; pixels = t.pixels; changed = t.changed; length = n }

  accepted : eqb (check_number v) 0 ≡ true
  unfolding check_number_up_to
  accepted = simp trace

  module _ (bs : List ℕ) (rest : List (List ℕ)) (cut : joined (bs ∷ rest) ≡ v) where
    as_one : fed_all n (bs ∷ rest) (begun p) ≡ fed n v (begun p)
    as_one = any_feeds n bs rest (begun p) ∙ ap (λ (xs : List ℕ). fed n xs (begun p)) cut

    pub as_from_a_file : closed (fed_all n (bs ∷ rest) (begun p)).reader n ≡ played v held p
    unfolding fed before closed played
    as_from_a_file = ap (λ (s : Standing). closed s.reader n) as_one ∙ simp (le-leb n (length p) long, accepted) (ap answered runs)

    pub pictured_as_from_a_file : (fed_all n (bs ∷ rest) (begun p)).picture ≡ pictured v held p
    unfolding fed before pictured
    pictured_as_from_a_file =
        ap (λ (s : Standing). s.picture) as_one ∙ simp (le-leb n (length p) long, accepted) (ap (λ (t : State). t.picture ++ drop n p) runs)
