-- The public functions that are written for any type: `tried` of `base` and `told` of `loader`. What other lines claim of each function is claimed of
-- these two at every type that they take, with whatever its traits say of it.
use mir.Syntax.{Dict}
use contract.BorrowLft.{◌⊑◌}
use contract.Lifetimes.{Lfts}
use denote.RattleType.{RattleType}
use denote.Param.Laws.{Laws, IsCopy}
use denote.Struct.Field.{u32-field}
use Rattle.std.specs.Prelude.{◌≡◌, [], ◌∷◌}
use Rattle.std.specs.declared.clone.Clone as Clone
use Rattle.std.specs.declared.convert.Into as Into
use Rattle.base.specs.Said.{said}
use Rattle.base.specs.declared.int.Restricted as Restricted
use Rattle.base.specs.contracts.int.Restricted.TheBound as number
use Rattle.base.proofs.int.tried as tried
use Rattle.loader.proofs.told as told
use Rattle.claims.specs.Calls.{OneAnswer, OneOutcome, second, ◌&◌}
use Rattle.claims.specs.EveryInput.{Any}
use Rattle.claims.specs.Point1.{Refuses}

-- a claim of every restricted number and its integer, with whatever their traits say of them
abbrev pub EachNumber : ((T I : RattleType) → Laws T → Laws I → Restricted.Ghosts T.Denot I.Denot → Dict → Into.Ghosts I.Denot (u32-field).Value → Dict → Type 0) → Type 2
EachNumber Claim =
    (T I : RattleType) (LT : Laws T) (LI : Laws I) (restricted : Restricted.Ghosts T.Denot I.Denot) (d : Dict)
    (into : Into.Ghosts I.Denot (u32-field).Value) (d' : Dict) → Claim T I LT LI restricted d into d'

-- the same of what is `Restricted`: every impl proves the trait's law `apart`, that no two values are of one number
abbrev pub EachRestricted : ((T I : RattleType) → Laws T → Laws I → Restricted.Ghosts T.Denot I.Denot → Dict → Into.Ghosts I.Denot (u32-field).Value → Dict → Type 0) → Type 2
EachRestricted Claim = EachNumber (λ T I LT LI restricted d into d'. number.apart-law T I restricted d into d' → Claim T I LT LI restricted d into d')

-- a claim of every type whose values are copied
abbrev pub EachCopied : ((T : RattleType) → Laws T → IsCopy T → Clone.Ghosts T.Denot → Dict → Type 0) → Type 2
EachCopied Claim = (T : RattleType) (LT : Laws T) (CT : IsCopy T) (clone : Clone.Ghosts T.Denot) (d : Dict) → Claim T LT CT clone d

-- what a function asks holds, wherever something holds of the lifetimes of a call, and whatever its arguments are
abbrev pub Within : {A : Lfts 2 → Type 0} → (Lfts 2 → Type 0) → ((κs : Lfts 2) → A κs → Type 0) → Type 0
Within {A} Holds Asked = (κs : Lfts 2) (a : A κs) → Holds κs → Asked κs a

pub record OfTypes : Type 2 where
  -- they ask nothing of their callers, so that every input gets an answer: what a value of the types borrows is alive in the call, as of any value
  pub tried_asks : EachNumber (λ T I LT LI restricted d into d'.
      Within (λ κs. (κs.0 ⊑ T.lives) × (κs.1.0 ⊑ I.lives)) (tried.Reads.Asked T I LT LI restricted d into d'))
  pub told_asks : EachCopied (λ T LT CT clone d. Within (λ κs. κs.1.0 ⊑ T.lives) (told.Reads.Asked T LT CT clone d))
  -- nor this, of types that borrow nothing, which all are that these crates call them with
  pub tried_asks_nothing : EachNumber (λ T I LT LI restricted d into d'.
      T.lives ≡ [] → I.lives ≡ [] → Any (tried.Reads.Asked T I LT LI restricted d into d'))
  pub told_asks_nothing : EachCopied (λ T LT CT clone d. T.lives ≡ [] → Any (told.Reads.Asked T LT CT clone d))
  -- any two answers are identical, and so is what is lent to `told`, at the end
  pub tried_one_answer : EachRestricted (λ T I LT LI restricted d into d'. OneAnswer (tried.Reads.Learnt T I LT LI restricted d into d'))
  pub told_one_outcome : EachCopied (λ T LT CT clone d. OneOutcome (told.Reads.Learnt T LT CT clone d) (λ κs a r e. r & (second e).now))
  -- 18: a number above its width
  pub tried_refuses : EachNumber (λ T I LT LI restricted d into d'.
      Refuses (tried.Reads.Learnt T I LT LI restricted d into d') (λ κs. said restricted.value) (18 ∷ []))
