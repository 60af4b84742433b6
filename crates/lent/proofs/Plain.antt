-- A type of plain data, with one machine value and no resource, as the theorem about lent calls takes the state, the answer and most parameters.
-- Assumes nothing.
use mathlib.Core.Path.{◌≡◌, refl, sym, subst}
use mathlib.Core.List.{[], ◌∷◌}
use seplogic.Ra.Ura.{Ura}
use lib.Dec.{T}
use mir.Syntax.{Ty, Width, ty_int}
use mir.Val.{Val, vint, of_z, WT, has_ty}
use base.Fml.{ftrue}
use types.Logic.{Logic}
use denote.RattleType.{RattleType}
use denote.Laws.{Is, Tells, Makes}
use denote.Exit.{Exit, unchanged, Last, left, yes}
use denote.Memory.{lone}
use denote.Struct.Declared as Struct
use denote.Struct.Struct.{layout, Plains}
use denote.Struct.Laws as LL
use denote.Enum.Declared as Enum
use denote.Enum.Enum.{Few, Plainss}
use denote.Enum.Laws as EL
use denote.Plain.{UInt, uint_Tells, uint_Lawful, uint_Makes}
use denote.Signed.{SInt, sint_Tells, sint_Lawful, sint_Makes}

pub record Plain : Type 2 where
  pub row : RattleType
  -- its one MIR type, and a value's one machine value
  pub ty : Ty
  pub one : row.mir ≡ ty ∷ []
  pub val : row.Denot → Val
  pub tells : Tells row (Is row) (λ x. val x ∷ [])
  pub typed : {M : Type 1} {𝓤 : Ura M} (𝓛 : Logic 𝓤) → (x : row.Denot) (v : Val) → Is row x (v ∷ []) → T (has_ty ty v) × WT v
  -- its facts make what it owns
  pub makes : {M : Type 1} {𝓤 : Ura M} (𝓛 : Logic 𝓤) → Makes 𝓛 row (Is row)
  -- nothing is bound of it at exit, and nothing said
  pub last : (x : row.Denot) → Last (row.exit yes) x
  pub silent : (x : row.Denot) (f : Last (row.exit yes) x) → left (row.exit yes) x f ≡ ftrue

abbrev pub unsigned : Width → Plain
unsigned w = record {
  row = UInt w;
  ty = ty_int w;
  one = refl;
  val = vint w;
  tells = uint_Tells w;
  typed = λ 𝓛 n v is. ((uint_Lawful 𝓛 w).typed n _ is).0;
  makes = λ 𝓛. uint_Makes 𝓛 w;
  last = λ n. tt;
  silent = λ n f. refl;
}

abbrev pub signed : Width → Plain
signed w = record {
  row = SInt w;
  ty = ty_int w;
  one = refl;
  val = λ z. vint w (of_z w z);
  tells = sint_Tells w;
  typed = λ 𝓛 z v is. ((sint_Lawful 𝓛 w).typed z _ is).0;
  makes = λ 𝓛. sint_Makes 𝓛 w;
  last = λ z. tt;
  silent = λ z f. refl;
}

-- ---- a declared struct and a declared enum, by the laws that are made of each
pub unchanged-last : {D : Type 0} (e : Exit D) → e ≡ unchanged → (x : D) → Last e x
unchanged-last e is x = subst (λ (d : Exit _). Last d x) (sym is) tt

pub unchanged-silent : {D : Type 0} (e : Exit D) → e ≡ unchanged → (x : D) (f : Last e x) → left e x f ≡ ftrue
unchanged-silent e is x = subst (λ (d : Exit _). (f : Last d x) → left d x f ≡ ftrue) (sym is) (λ f. refl)

abbrev pub of_struct : (D : Struct.Declared) → LL.Laws D → Plains (Struct.fields D) → LL.Copyables D.parts → Plain
of_struct D L pure copies = record {
  row = Struct.row D;
  ty = layout (Struct.shape D);
  one = refl;
  val = LL.val D L;
  tells = LL.tells D L;
  typed = λ 𝓛 x v is. ((LL.lawful D L 𝓛).typed x _ is).0;
  makes = λ 𝓛. LL.makes D pure 𝓛;
  last = unchanged-last ((Struct.row D).exit yes) (LL.still D copies yes);
  silent = unchanged-silent ((Struct.row D).exit yes) (LL.still D copies yes);
}

abbrev pub of-enum : (D : Enum.Declared) → EL.Laws D → Few (Enum.shape D) → Plainss (Enum.variants D) → EL.Copyabless D.parts → Plain
of-enum D L few pure copies = record {
  row = Enum.row D;
  ty = lone (Enum.row D).mir;
  one = refl;
  val = EL.val D L;
  tells = EL.tells D L;
  typed = λ 𝓛 x v is. ((EL.lawful D L 𝓛 few).typed x _ is).0;
  makes = λ 𝓛. EL.makes D pure 𝓛;
  last = unchanged-last ((Enum.row D).exit yes) (EL.still D copies yes);
  silent = unchanged-silent ((Enum.row D).exit yes) (EL.still D copies yes);
}
