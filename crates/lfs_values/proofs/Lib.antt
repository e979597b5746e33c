pub mod FlagLaws
pub mod ItemLaws
pub mod KeyLaws
pub mod MirrorIdLaws
pub mod ValueLaws
