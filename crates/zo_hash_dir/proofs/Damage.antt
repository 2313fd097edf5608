-- What damage a step of a look-up tells, under other words for it.
use Rattle.std.proofs.Common.{◌≡◌, ◌≢◌, ℕ, List, sym, refl, subst}
use Rattle.tr_types.specs.declared.action.Answer.{Answer}
use Rattle.tr_types.specs.declared.action.Answer.TheVariants.{Word}
use Rattle.zo_hash_dir.specs.declared.lookup.Asked.{Asked}
use Rattle.zo_hash_dir.specs.declared.lookup.Asked.TheVariants as look
use Rattle.zo_hash_dir.specs.declared.lookup.LookStep.{LookStep}
use Rattle.zo_hash_dir.specs.declared.lookup.LookStep.TheVariants.{Load, Found, Missing, Damaged}
use Rattle.zo_hash_dir.specs.Looking.{IsBad, IsDamageAt, TellsDamage, asked_word}

pub tells_same : (step : LookStep) (D E : ℕ → Type 0) → ((addr : ℕ) → D addr → E addr) → ((addr : ℕ) → E addr → D addr) → TellsDamage step D → TellsDamage step E
tells_same (Load addr) D E to from tells = λ a e. tells a (from a e)
tells_same (Found place target) D E to from tells = λ a e. tells a (from a e)
tells_same (Missing place) D E to from tells = λ a e. tells a (from a e)
tells_same (Damaged addr) D E to from tells = to addr tells

-- what is bad where this was asked for
abbrev pub BadAt : ℕ → ℕ → ℕ → List ℕ → Asked → ℕ → Type 0
BadAt visits word dir name asked addr = IsBad asked visits word × (addr ≡ asked_word dir name asked)

pub tells_asked : (step : LookStep) (asked other : Asked) (visits word dir : ℕ) (name : List ℕ) → other ≡ asked → TellsDamage step (BadAt visits word dir name asked) → TellsDamage step (BadAt visits word dir name other)
tells_asked step asked other visits word dir name is tells = subst (λ (q : Asked). TellsDamage step (BadAt visits word dir name q)) (sym is) tells

damage_of : (asked : Asked) (word visits dir : ℕ) (name : List ℕ) (addr : ℕ) → asked ≢ look.Nothing → BadAt visits word dir name asked addr → IsDamageAt asked (Word word) visits dir name addr
damage_of look.Nothing word visits dir name addr ne d = absurd (ne refl)
damage_of asked word visits dir name addr ne d = d

of_damage : (asked : Asked) (word visits dir : ℕ) (name : List ℕ) (addr : ℕ) → asked ≢ look.Nothing → IsDamageAt asked (Word word) visits dir name addr → BadAt visits word dir name asked addr
of_damage look.Nothing word visits dir name addr ne d = absurd (ne refl)
of_damage asked word visits dir name addr ne d = d

pub tells_word : (step : LookStep) (asked : Asked) (answer : Answer) (word visits dir : ℕ) (name : List ℕ) → asked ≢ look.Nothing → answer ≡ Word word
    → TellsDamage step (BadAt visits word dir name asked) → TellsDamage step (IsDamageAt asked answer visits dir name)
tells_word step asked answer word visits dir name ne is tells =
    subst (λ (a : Answer). TellsDamage step (IsDamageAt asked a visits dir name)) (sym is)
    (tells_same step (BadAt visits word dir name asked) (IsDamageAt asked (Word word) visits dir name)
    (λ addr d. damage_of asked word visits dir name addr ne d) (λ addr d. of_damage asked word visits dir name addr ne d) tells)
