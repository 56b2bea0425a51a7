-- What comes of words that give no job.
use Rattle.std.specs.Prelude.{◌≡◌, String, Result, Ok, Err}
use Rattle.std.specs.declared.alloc.Global.{Global}
use Rattle.pay_words.specs.declared.words.WordsFault.{WordsFault}
use Rattle.pay_words.specs.declared.words.WordsFault.TheVariants as words
use Rattle.pay_jobs.specs.declared.fault.Fault.{Fault}
use Rattle.pay_jobs.specs.declared.fault.Fault.TheVariants.{Usage}
use Rattle.pay_jobs.specs.Words.{IsWantOfMemory}

-- a text that they ask for, or a fault
abbrev pub IsTextOrFault : WordsFault → Result (String Global) Fault → Type 0
IsTextOrFault (words.Help text) result = result ≡ Ok text
IsTextOrFault (words.Version text) result = result ≡ Ok text
IsTextOrFault words.Usage result = result ≡ Err Usage
IsTextOrFault words.Memory (Ok text) = ⊥
IsTextOrFault words.Memory (Err fault) = IsWantOfMemory fault
