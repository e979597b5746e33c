use Rattle.lfs_words.proofs.Apart.{all_words, spelled_named}
use Rattle.lfs_words.proofs.FactLaws.{spelled_sound}
use Rattle.lfs_words.proofs.facts.spelled_facts.Goals as goal

pub returns : goal.returns
returns c = record { sound = spelled_sound; words = λ most words command spells. all_words command (spelled_named most words command spells) }
