-- What a walker owns: the slice that it was lent, beside a number. A walker can be copied, taken apart, and made of a slice and a number;
-- and it can be had of what was taken from another.
-- Assumes nothing.
use mathlib.Core.Path.{◌≡◌, refl}
use Prim.Native.Nat.{ℕ, ◌<◌, ◌^◌}
use mathlib.Core.List.{List, [], ◌∷◌}
use lib.Dec.{T as Holds}
use lib.ListN.{length}
use seplogic.Ra.Ura.{Ura}
use mir.Syntax.{named, erased, imm, w8, w64, ty_int, ty_ref}
use mir.Val.{Val, WT, has_ty}
use base.Logic.{ent, sep}
use base.Fml.{Lft, Fml}
use types.Logic.{Logic, sem}
use contract.Lifetimes.{Lfts}
use types.Kit.{‵, ◌⊛◌, given, ◌$◌, ◌∵◌, !, qed, by, move, drop, use1, split, learn, fsplit, fjoin, done}
use denote.RattleType.{RattleType, owns}
use denote.Laws.{Is, Ises, Spells, Tellss}
use denote.Plain.{uint_Makes, uint_row_laws}
use denote.Builtin.{u8, usize}
use denote.Ref.{Bor, NamedLft}
use denote.Signature.{named_lft}
use denote.Slice.{slice_ty, slice_val, ShrSlice, shr_slice_Lawful, shr_slice_copy}
use denote.Steps.{owned, nothing}
use denote.Struct.Declared.{Declared}
use denote.Struct.Laws as LL
use denote.Struct.Rest.{all_own, field_own, rest, own_open, own_out, own_shut}
use denote.Struct.Values.{Values}
use Rattle.book.specs.declared.Book.{Book}
use Rattle.book.specs.contracts.Book as B
use Rattle.book.proofs.Book.TheLaws as B'
use Rattle.filing.specs.declared.Reading.{Reading}
use Rattle.filing.specs.contracts.Reading as G
use Rattle.filing.proofs.Reading.TheLaws as G'
use Rattle.walker.specs.declared.Walker.{Walker}
use Rattle.walker.specs.declared.Taken.{Taken}
use Rattle.walker.specs.Walk.{walker_at}
use Rattle.walker.specs.contracts.Walker as T
use Rattle.walker.proofs.Walker.TheLaws as T'
use Rattle.walker.specs.contracts.Taken as R
use Rattle.walker.proofs.Taken.TheLaws as R'

-- `Walker<'a>` in a signature whose one lifetime is 'a
abbrev pub walker_in : Lfts 1 → RattleType
walker_in κs = T.the_row (named_lft 1 0 tt κs)

-- the machine values of a book, of a reading, of a slice and of a walker
abbrev pub book_val : Book → Val
book_val b = LL.val B.the_type B'.the_laws b

abbrev pub OfBook : Book → Type 0
OfBook b = Is B.the_row b (book_val b ∷ [])

abbrev pub reading_val : Reading → Val
reading_val r = LL.val G.the_type G'.the_laws r

abbrev pub slice_in : Bor (List ℕ) → Val
slice_in bytes = slice_val bytes.ref_ptr (length bytes.now)

abbrev pub machine_of : Walker → Val
machine_of w = T'.lowered w

-- of a function whose one parameter is a walker: the machine values of its parameters
abbrev pub walker-spelt : (κs : Lfts 1) → Spells (walker_in κs ∷ [])
walker-spelt κs = (LL.vals (T.the_type (named_lft 1 0 tt κs)) (T'.the_laws (named_lft 1 0 tt κs)), tt)

pub walker-tells : (κs : Lfts 1) → Tellss (walker_in κs ∷ []) (Ises (walker_in κs ∷ [])) (walker-spelt κs)
walker-tells κs = (LL.tells (T.the_type (named_lft 1 0 tt κs)) (T'.the_laws (named_lft 1 0 tt κs)), tt)

module _ (κ : Lft) where
  abbrev pub α : NamedLft
  α = named_lft 1 0 tt (κ, tt)

  -- in a local of a body the lifetime has no name
  abbrev unnamed : NamedLft
  unnamed = record { mir = erased; lft = κ }

  abbrev parts : Declared
  parts = T.the_type α

  abbrev laws : LL.Laws parts
  laws = T'.the_laws α

  abbrev pub BytesOwned : Bor (List ℕ) → Fml
  BytesOwned bytes = (ShrSlice (named 0) κ u8).own_val bytes (slice_in bytes ∷ [])

  abbrev pub WalkerOwned : Walker → Fml
  WalkerOwned w = (walker_in (κ, tt)).own_val w (machine_of w ∷ [])

  abbrev pub taken_val : Taken → Val
  taken_val t = LL.val (R.the_type α) (R'.the_laws α) t

  abbrev pub TakenOwned : Taken → Fml
  TakenOwned t = (R.the_row α).own_val t (taken_val t ∷ [])

  -- what is known of each by whoever owns it
  abbrev pub OfWalker : Walker → Type 0
  OfWalker w = Is (walker_in (κ, tt)) w (machine_of w ∷ [])

  abbrev pub OfTaken : Taken → Type 0
  OfTaken t = Is (R.the_row α) t (taken_val t ∷ [])

  pub of-next : (t : Taken) → OfTaken t → OfWalker t.walker
  of-next t of_taken = (LL.owed (R.the_type α) (R'.the_laws α) t _ of_taken).1.0

  module _ {M : Type 1} {𝓤 : Ura M} (𝓛 : Logic 𝓤) where
    -- a machine value has its type, and the number in it fits
    pub slice-typed : (bytes : Bor (List ℕ)) → Is (ShrSlice (named 0) κ u8) bytes (slice_in bytes ∷ []) → Holds (has_ty (slice_ty (ty_ref (named 0) imm (ty_int w8))) (slice_in bytes)) × WT (slice_in bytes)
    slice-typed bytes is = ((shr_slice_Lawful 𝓛 (named 0) κ u8).typed bytes (slice_in bytes ∷ []) is).0

    pub walker-typed : (w : Walker) → OfWalker w → Holds (has_ty (T'.mir (named 0)) (machine_of w)) × WT (machine_of w)
    walker-typed w is = ((LL.lawful parts laws 𝓛).typed w (machine_of w ∷ []) is).0

    -- and so it has in a local
    pub walker-local : (w : Walker) → OfWalker w → Holds (has_ty (T'.mir erased) (machine_of w)) × WT (machine_of w)
    walker-local w is = ((LL.lawful (T.the_type unnamed) (T'.the_laws unnamed) 𝓛).typed w (machine_of w ∷ []) is).0

    pub taken-local : (t : Taken) → OfTaken t → Holds (has_ty (R'.mir erased) (taken_val t)) × WT (taken_val t)
    taken-local t is = ((LL.lawful (R.the_type unnamed) (R'.the_laws unnamed) 𝓛).typed t (taken_val t ∷ []) is).0

    pub bytes-twice : (bytes : Bor (List ℕ)) → ent 𝓤 (sem 𝓛 (BytesOwned bytes)) (sep 𝓤 (sem 𝓛 (BytesOwned bytes)) (sem 𝓛 (BytesOwned bytes)))
    bytes-twice bytes = (shr_slice_copy 𝓛 (named 0) κ u8 (uint_row_laws w8)).twice bytes (slice_in bytes ∷ [])

    pub walker-twice : (w : Walker) → ent 𝓤 (sem 𝓛 (WalkerOwned w)) (sep 𝓤 (sem 𝓛 (WalkerOwned w)) (sem 𝓛 (WalkerOwned w)))
    walker-twice w = (LL.copy parts (T'.the_copy α) 𝓛).twice w (machine_of w ∷ [])

    pub bytes_of : (w : Walker) → ent 𝓤 (sem 𝓛 (WalkerOwned w)) (sem 𝓛 (BytesOwned w.bytes))
    bytes_of w =
        let values : Values parts.parts = (w.bytes, (w.offset, tt)) in
        qed 𝓛 (‵ (WalkerOwned w) ∷ []) ∵
        use1 𝓛 (given (machine_of w ∷ [] ≡ machine_of w ∷ []) (‵ (all_own parts.parts laws values))) (own_open 𝓛 parts laws values (machine_of w)) $ learn ! (λ _.
        use1 𝓛 (‵ (field_own parts.parts laws 0 w.bytes) ⊛ ‵ (rest parts.parts laws 0 values)) (own_out 𝓛 parts.parts laws 0 values) $ split ! $ move ! (1 ∷ []) $ drop ! $ done !)

    pub walker-made : (bytes : Bor (List ℕ)) (offset : ℕ) → offset < 2 ^ 64 → ent 𝓤 (sem 𝓛 (BytesOwned bytes)) (sem 𝓛 (WalkerOwned (walker_at bytes offset)))
    walker-made bytes offset fits =
        qed 𝓛 (‵ (BytesOwned bytes) ∷ []) ∵
        nothing ! $ owned ! usize (Is usize) (uint_Makes 𝓛 w64) offset _ (refl, fits) $ fjoin ! $ move ! (1 ∷ 0 ∷ []) $ fjoin ! $ by ! (own_shut 𝓛 parts laws (bytes, (offset, tt)))

    -- the walker in what was taken, as a function that takes it asks for it
    pub walker-of : (t : Taken) → ent 𝓤 (sem 𝓛 (TakenOwned t)) (sem 𝓛 (owns (walker_in (κ, tt) ∷ []) (t.walker, tt) (machine_of t.walker ∷ [], tt)))
    walker-of t =
        qed 𝓛 (‵ (TakenOwned t) ∷ []) ∵
        use1 𝓛 (given (taken_val t ∷ [] ≡ taken_val t ∷ []) (‵ (all_own (R.the_type α).parts (R'.the_laws α) (t.field, (t.walker, tt))))) (own_open 𝓛 (R.the_type α) (R'.the_laws α) (t.field, (t.walker, tt)) (taken_val t)) $
        learn ! (λ _. fsplit ! $ drop ! $ done !)
