-- The files as the code keeps them, by name.
use Rattle.std.specs.Prelude.{ℕ, zero, suc, List, [], ◌∷◌, map}
use Rattle.layout_lease.specs.Shares.{evicted}
use Rattle.meta_server.specs.declared.files.Kept.{Kept}
use Rattle.meta_server.specs.Files.{File}

-- the file of an entry
abbrev pub file_of_entry : List ℕ × Kept → File
file_of_entry p = record { number = p.1.number; name = p.0; size = p.1.size; layout = p.1.layout; lock = p.1.lock }

-- the files of all entries, in their order
abbrev pub files_of : List (List ℕ × Kept) → List File
files_of entries = map file_of_entry entries

-- what is kept of a file, without the client's cookies
abbrev pub evicted_kept : ℕ → Kept → Kept
evicted_kept client k = record k { lock = evicted client k.lock }

-- the entries, the first of which, so many, are without the client's cookies
abbrev pub without_cookies : ℕ → ℕ → List (List ℕ × Kept) → List (List ℕ × Kept)
without_cookies client n [] = []
without_cookies client zero (e ∷ es) = e ∷ es
without_cookies client (suc n) (e ∷ es) = (e.0, evicted_kept client e.1) ∷ without_cookies client n es
