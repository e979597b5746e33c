mod ByteLaws
mod NameLaws
mod CopyLaws
mod MetaWaits
mod CallWaits
pub mod BlockingLaws
pub mod RefusalLaws
mod ReplyLaws
pub mod SplitLaws
