-- A `&mut Card` that is lent to an entry for C, for a walk of such an entry by hand. Those of `host` and `host_run` need none today: the check walks there itself.
--     card_s, byte_s, word_s  a card, a `u8` and a `u32` among the parameters of a signature
--     byte_stay, word_stay, byte_goes, word_goes       what a walk has of a number at exit
--     spell, typed         a card's machine value, and that a value which is a card's has the type of a card's place in memory
--     card-opens           the borrow is opened: the card's place in memory, with the card's machine value in it
--     card_closes          the borrow is closed at another card, whose machine value now lies there
--     card_owned, byte_owned, word_owned       what a card, a `u8` and a `u32` own is had for nothing
--     slice_typed          the machine value of a slice has the type of a slice's place in memory
-- A card is plain data: what it owns is let go where the borrow is opened, and made anew where it is closed.
-- Assumes `Logic`.
use mathlib.Core.Path.{refl}
use Prim.Native.Nat.{ℕ, ◌<◌, ◌^◌}
use mathlib.Core.List.{List, [], ◌∷◌}
use lib.ListN.{length}
use seplogic.Ra.Ura.{Ura}
use base.Fraction.{full_share}
use lib.Dec.{T as Holds}
use mir.Syntax.{Lifetime, Mutability, ty_ref, ty_int, w8, w32}
use mir.Val.{Val, WT, has_ty, vint}
use base.Stored.{Gv}
use base.Fml.{Lft, GName, Share, flft, fobs, fauth, fbor, fobor}
use types.Logic.{Logic}
use types.Kit.{Goal, Soaks, ◌$◌, Step, step, Item, ‵, Seq, move}
use types.SemTy.{Body}
use denote.Laws.{Is, shows}
use denote.Memory.{mem, cell_at}
use denote.Plain.{uint_Makes}
use denote.Builtin.{u8, u32}
use denote.Ref.{MutBor}
use denote.Slice.{slice_val, slice_ty, Room}
use denote.Signature.{Slot, plain}
use denote.Steps.{opens, closes, owned, facts}
use denote.Struct.Steps.{spelt}
use denote.Struct.Laws as LL
use denote.Triple.Walked.{Stay, stay_dropped, Goes, Goes-dropped}
use denote.Exit.{yes}
use Rattle.card.specs.declared.Card.{Card}
use Rattle.card.specs.contracts.Card as T
use Rattle.card.proofs.Card.TheLaws as T'

abbrev pub card_s : {n : ℕ} → Slot n
card_s = plain (λ _. T.the_row)

abbrev pub byte_s : {n : ℕ} → Slot n
byte_s = plain (λ _. u8)

abbrev word_s : {n : ℕ} → Slot n
word_s = plain (λ _. u32)

-- nothing is had of a number at exit, and nothing is said of it
abbrev pub byte_stay : {n : ℕ} → Stay (byte_s {n = n}) yes
byte_stay = stay_dropped byte_s yes

abbrev pub word_stay : {n : ℕ} → Stay (word_s {n = n}) yes
word_stay = stay_dropped word_s yes

pub byte_goes : {M : Type 1} {𝓤 : Ura M} (𝓛 : Logic 𝓤) (n : ℕ) → Goes 𝓛 n byte_s yes byte_stay
byte_goes 𝓛 n = Goes-dropped 𝓛 n byte_s yes (λ κs x f. refl)

pub word_goes : {M : Type 1} {𝓤 : Ura M} (𝓛 : Logic 𝓤) (n : ℕ) → Goes 𝓛 n word_s yes word_stay
word_goes 𝓛 n = Goes-dropped 𝓛 n word_s yes (λ κs x f. refl)

abbrev pub spell : Card → Val
spell c = LL.val T.the_type T'.the_laws c

pub typed : {M : Type 1} {𝓤 : Ura M} (𝓛 : Logic 𝓤) (c : Card) (u : Val) → Is T.the_row c (u ∷ []) → Holds (has_ty T'.mir u) × WT u
typed 𝓛 c u is = ((LL.lawful T.the_type T'.the_laws 𝓛).typed c _ is).0

module _ {M : Type 1} {𝓤 : Ura M} {𝓛 : Logic 𝓤} {K : Type 0} {Γ : List (Item 𝓤)} {G : Goal 𝓤 𝓛.H} where
  pub byte_owned : K → (n : ℕ) → n < 2 ^ 8 → Step K 𝓛 (‵ (u8.own_val n (vint w8 n ∷ [])) ∷ Γ) G Γ G
  byte_owned t n fits = owned t u8 (Is u8) (uint_Makes 𝓛 w8) n _ (refl, fits)

  pub word_owned : K → (n : ℕ) → n < 2 ^ 32 → Step K 𝓛 (‵ (u32.own_val n (vint w32 n ∷ [])) ∷ Γ) G Γ G
  word_owned t n fits = owned t u32 (Is u32) (uint_Makes 𝓛 w32) n _ (refl, fits)

  pub card_owned : K → (c : Card) (u : Val) → Is T.the_row c (u ∷ []) → Step K 𝓛 (‵ ((T.the_row).own_val c (u ∷ [])) ∷ Γ) G Γ G
  card_owned t c u is = owned t T.the_row (Is T.the_row) (LL.makes T.the_type T'.the_plain 𝓛) c (u ∷ []) is

module _ {M : Type 1} {𝓤 : Ura M} {𝓛 : Logic 𝓤} {K : Type 0} {Γ : List (Item 𝓤)} {G : Goal 𝓤 𝓛.H} where
  pub card-opens : K → Soaks G → {κ : Lft} {q : Share} {γ : GName} (c : Card) (b o : ℕ)
      → (Is T.the_row c (spell c ∷ [])
      → Seq K 𝓛 (‵ (cell_at full_share (T.the_row).mir (spell c ∷ []) b o) ∷ ‵ (fobor κ q (Body (mem T.the_row) b o γ)) ∷ ‵ (fobs γ ((T.the_row).coded.code c)) ∷ ‵
      (fauth γ ((T.the_row).coded.code c)) ∷ Γ) G)
      → Seq K 𝓛 (‵ (fobs γ ((T.the_row).coded.code c)) ∷ ‵ (fbor κ (Body (mem T.the_row) b o γ)) ∷ ‵ (flft κ q) ∷ Γ) G
  card-opens t z c b o k =
      opens t z T.the_row {h = c} b o (λ vs.
      spelt t T.the_row (Is T.the_row) (shows 𝓛 T.the_row) (LL.vals T.the_type T'.the_laws) (LL.tells T.the_type T'.the_laws) full_share c vs b o $
      move t (1 ∷ []) $ facts t T.the_row (Is T.the_row) (shows 𝓛 T.the_row) c (spell c ∷ []) k)

  pub card_closes : K → Soaks G → {κ : Lft} {q : Share} {x y : Gv} {γ : GName} (c : Card) (u : Val) (b o : ℕ) → Is T.the_row c (u ∷ [])
      → Step K 𝓛 (‵ (fobs γ ((T.the_row).coded.code c)) ∷ ‵ (fbor κ (Body (mem T.the_row) b o γ)) ∷ ‵ (flft κ q) ∷ Γ) G
      (‵ (cell_at full_share (T.the_row).mir (u ∷ []) b o) ∷ ‵ (fobor κ q (Body (mem T.the_row) b o γ)) ∷ ‵ (fobs γ x) ∷ ‵ (fauth γ y) ∷ Γ) G
  card_closes t z c u b o is = step (λ s. card_owned t c u is $ move t (1 ∷ 0 ∷ []) $ closes t z T.the_row c (u ∷ []) b o $ s)

pub slice_typed : (ℓ : Lifetime) (m : Mutability) (x : MutBor (List ℕ)) → Room u8 (length x.now)
    → Holds (has_ty (slice_ty (ty_ref ℓ m (ty_int w8))) (slice_val x.ref_ptr (length x.now))) × WT (slice_val x.ref_ptr (length x.now))
slice_typed ℓ m x room = (tt, (tt, (record { fits = room.0 }, tt)))
