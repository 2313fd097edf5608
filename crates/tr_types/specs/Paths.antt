-- Paths as texts: what is one, and which path lies under another.
use Rattle.std.specs.Prelude.{filter, ℕ, List, [], ◌∷◌, ◌++◌, length, Bool, false, not, ◌&&◌, ◌||◌, ◌==◌, nat_le, nat_eq, codes, if◌then◌else◌}
use Rattle.std.specs.List.{list_all, starts_with, before_last}
use Rattle.std.specs.Cmp.Lexicographic.{pointwise}

-- The names of a path: what stands between its slashes. `/` has none.
abbrev pub in_first : ℕ → List (List ℕ) → List (List ℕ)
in_first byte [] = (byte ∷ []) ∷ []
in_first byte (part ∷ parts) = (byte ∷ part) ∷ parts

abbrev pub parts_of : List ℕ → List (List ℕ)
parts_of [] = [] ∷ []
parts_of (byte ∷ path) = if byte == 47 then [] ∷ parts_of path else in_first byte (parts_of path)

abbrev pub names_of : List ℕ → List (List ℕ)
names_of path = filter (λ part. not (length part == 0)) (parts_of path)

abbrev pub same_text : List ℕ → List ℕ → Bool
same_text = pointwise nat_eq

-- a byte of a name: a printable one other than the blank and `/`
abbrev pub is_name_byte : ℕ → Bool
is_name_byte byte = nat_le 33 byte && nat_le byte 126 && not (byte == 47)

-- a name of any length
abbrev pub is_name_text : List ℕ → Bool
is_name_text name = not (length name == 0) && list_all is_name_byte name && not (same_text name (codes ".")) && not (same_text name (codes ".."))

-- what stands between slashes is nothing, and then one name or more
abbrev pub are_names_after : List (List ℕ) → Bool
are_names_after [] = false
are_names_after (front ∷ []) = false
are_names_after (front ∷ name ∷ names) = (length front == 0) && list_all is_name_text (name ∷ names)

-- a path is `/`, or names each after a `/`
abbrev pub is_path_text : List ℕ → Bool
is_path_text path = same_text path (codes "/") || are_names_after (parts_of path)

-- By whole names, a path begins with another: it is that path, or goes on after it with a `/`, or that path is `/`.
abbrev pub begins_with : List ℕ → List ℕ → Bool
begins_with path front = same_text path front || starts_with nat_eq path (front ++ 47 ∷ []) || same_text front (codes "/")

-- it begins with another, and isn't it
abbrev pub lies_under : List ℕ → List ℕ → Bool
lies_under path front = begins_with path front && not (same_text path front)

-- The directory that a path lies in: what stands before its last `/`, or `/` where nothing does.
abbrev pub before_last_slash : List ℕ → List ℕ
before_last_slash path = before_last (λ byte. byte == 47) path

abbrev pub directory_path : List ℕ → List ℕ
directory_path path = if length (before_last_slash path) == 0 then codes "/" else before_last_slash path
