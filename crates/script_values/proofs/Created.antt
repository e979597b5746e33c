-- The commands of lfs that the generator makes are spelled by words.
use Rattle.std.proofs.Common.{◌≡◌, List, [], ◌∷◌, Ok, None, refl}
use Rattle.std.specs.Prelude.{ℕ, codes}
use Rattle.text_words.specs.Names.{is_name}
use Rattle.text_words.specs.Numbers.{number_of, number_from}
use Rattle.text_words.specs.Sizes.{size_of}
use Rattle.lfs_values.specs.Keys.{exact_key, front_key, key_of}
use Rattle.lfs_values.specs.Values.{stripe_size_of, stripe_count_of, mirror_count_of}
use Rattle.lfs_words.specs.Reading.{start, after_lfs, after_mirror, read_of}
use Rattle.lfs_words.specs.declared.command.LfsCommand.TheVariants as lfs
use Rattle.lfs_words.proofs.Answering.{found}
use Rattle.script_values.specs.Commands.{IsLfs}
use Rattle.script_values.specs.Generator.{file, mirror}

resync_words : List (List ℕ)
resync_words = codes "lfs" ∷ codes "mirror" ∷ codes "resync" ∷ codes "/s" ∷ []

verify_words : List (List ℕ)
verify_words = codes "lfs" ∷ codes "mirror" ∷ codes "verify" ∷ codes "/s" ∷ []

create_words : List (List ℕ)
create_words = codes "lfs" ∷ codes "mirror" ∷ codes "create" ∷ codes "-N2" ∷ codes "-S" ∷ codes "64K" ∷ codes "-c" ∷ codes "2" ∷ codes "/s" ∷ []

resync_read : read_of 16 resync_words ≡ Ok (lfs.Resync file None)
unfolding resync_words read_of start after_lfs after_mirror exact_key front_key key_of is_name
resync_read = refl

verify_read : read_of 16 verify_words ≡ Ok (lfs.Verify file)
unfolding verify_words read_of start after_lfs after_mirror exact_key front_key key_of is_name
verify_read = refl

create_read : read_of 16 create_words ≡ Ok (lfs.Create file (mirror ∷ mirror ∷ []))
unfolding create_words read_of start after_lfs after_mirror exact_key front_key key_of is_name number_of number_from size_of stripe_size_of stripe_count_of mirror_count_of
create_read = refl

pub resync_spelled : IsLfs 16 (lfs.Resync file None)
resync_spelled = (resync_words, found 16 resync_words (lfs.Resync file None) resync_read)

pub verify_spelled : IsLfs 16 (lfs.Verify file)
verify_spelled = (verify_words, found 16 verify_words (lfs.Verify file) verify_read)

pub create_spelled : IsLfs 16 (lfs.Create file (mirror ∷ mirror ∷ []))
create_spelled = (create_words, found 16 create_words (lfs.Create file (mirror ∷ mirror ∷ [])) create_read)
