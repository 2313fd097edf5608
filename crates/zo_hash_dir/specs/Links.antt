-- The stores that link a name with a target into a bucket, in order. The commit comes after them: the store of the
-- entry's address into the bucket's word.
use Rattle.std.specs.Prelude.{ℕ, ◌+◌, ◌*◌, ◌/◌, List, [], ◌∷◌, ◌++◌, length, map, take, drop, if◌then◌else◌, ◌==◌}
use Rattle.std.specs.List.{range_with_len}
use Rattle.zo_layout.specs.Layout.{first_entry_page, first_free_entry}
use Rattle.zo_plan.specs.declared.place.Place.{Place}
use Rattle.zo_plan.specs.declared.plan.Operand.{Operand}
use Rattle.zo_plan.specs.declared.plan.Operand.TheVariants.{Known, Drawn}
use Rattle.zo_plan.specs.declared.plan.Put.{Put}
use Rattle.zo_plan.specs.Operands.{word_behind}
use Rattle.zo_hash_dir.specs.Letters.{letters_word}

abbrev pub put : Operand → Operand → Put
put at word = record { at = at; word = word }

-- the entry page that a plan draws, before any other page, and place i of it
abbrev pub fresh_page : Operand
fresh_page = Drawn 0 0

abbrev pub fresh_entry : ℕ → Operand
fresh_entry i = word_behind fresh_page (32 + 40 * i)

-- word i of a name in its entry
abbrev pub letters_put : Operand → List ℕ → ℕ → Put
letters_put entry name i = put (word_behind entry (3 + i)) (Known (letters_word (take 8 (drop (8 * i) name))))

-- the words of an entry: the next one, its target, its name
abbrev pub entry_puts : Operand → ℕ → Operand → List ℕ → List Put
entry_puts entry next target name =
    put entry (Known next) ∷ put (word_behind entry 1) target ∷ put (word_behind entry 2) (Known (length name))
    ∷ map (letters_put entry name) (range_with_len 0 ((length name + 7) / 8))

-- In the directory's first free entry. The free entries go on with the next one before the entry's own words are
-- stored, so that no free entry leads into a bucket.
abbrev pub free_entry_puts : ℕ → Place → List ℕ → Operand → List Put
free_entry_puts dir place name target = put (Known (first_free_entry dir)) (Known place.free_next) ∷ entry_puts (Known place.free) place.head target name

-- the free entries of the drawn page: places 1 to 10 lead each to the one behind it, and place 11 to none
abbrev pub chain_put : ℕ → Put
chain_put i = put (fresh_entry i) (fresh_entry (i + 1))

-- the words of the drawn page that aren't its first entry's: the entry pages go on behind it as before
abbrev pub page_puts : ℕ → List Put
page_puts first = put fresh_page (Known first) ∷ map chain_put (range_with_len 1 10)

-- in place 0 of the drawn page, which becomes the directory's first entry page, and its place 1 the first free entry
abbrev pub fresh_page_puts : ℕ → Place → List ℕ → Operand → List Put
fresh_page_puts dir place name target =
    page_puts place.first ++ entry_puts (fresh_entry 0) place.head target name
    ++ put (Known (first_entry_page dir)) fresh_page ∷ put (Known (first_free_entry dir)) (fresh_entry 1) ∷ []

-- the entry that a link takes, and the stores that prepare it
abbrev pub linked_entry : Place → Operand
linked_entry place = if place.free == 0 then fresh_entry 0 else Known place.free

abbrev pub link_puts : ℕ → Place → List ℕ → Operand → List Put
link_puts dir place name target = if place.free == 0 then fresh_page_puts dir place name target else free_entry_puts dir place name target
