pub mod BytesLaws
pub mod PagesLaws
